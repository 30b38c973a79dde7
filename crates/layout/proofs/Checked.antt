-- The test of well-formed words: it is passed by the words of well-formed domains and by no others, in any lawful layout.
-- Assumes nothing.
use Prim.Native.Nat.{ℕ, ◌+◌, ◌<◌, ◌≤◌}
use mathlib.Core.Bool.{Bool, true}
use mathlib.Core.List.{List}
use mathlib.Core.Path.{◌≡◌, refl, sym, ◌∙◌, ap}
use native.Mathlib.Omega.{arith}
use lib.ListN.{length, take, drop, length-drop}
use lib.Dec.{leb, eqb}
use borrow.Author.Tests.{leb-true, eqb-true, le-leb, eq-eqb}
use Rattle.lists.specs.Tests.{All}
use Rattle.lists.proofs.Bools.{both}
use Rattle.lists.proofs.Facts as F
use Rattle.lists.proofs.Upto.{all-at, all_yes, all_of}
use Rattle.lists.proofs.Rows.{length-unrows, unrows-at, below}
use Rattle.model.specs.Params.{Params, Between, InRange, most_processes, most_hazards, most_nodes, most_ticks, most_calls}
use Rattle.model.specs.Params.{most_retired, most_lateness, last_clock}
use Rattle.model.specs.State.{Process, Domain, Fallback, no_process, process_of}
use Rattle.model.specs.WellFormed.{NodeFits, ProcessFits, WellFormed}
use Rattle.layout.specs.Shape.{Shape, Head, process_width, process_start, nodes_start, word_count_by}
use Rattle.layout.specs.Encode.{shape, process_by, process_words_by, encode, decode_by}
use Rattle.layout.specs.Words.{between, head_fits, process_fits_by, processes_fit_by, nodes_fit_by, well_formed_by}
use Rattle.layout.specs.Words.{well_formed}
use Rattle.layout.specs.Sound.{SoundBy, Sound}
use Rattle.layout.proofs.Room.{rows-small}
use Rattle.layout.proofs.Encode.{Roomy, laid, process-part, nodes_part_lem}
use Rattle.layout.proofs.Sound.{roomy, sound-encode}
use Rattle.layout.proofs.Whole.{RowFits, encode-decode}
use Rattle.layout.proofs.FitsProcess.{process-facts, process_test_lem}
use Rattle.layout.proofs.FitsNodes.{nodes-facts, nodes-test}
use Rattle.layout.proofs.Fits.{pass}

-- ---- the head

pub within : (low high n : ℕ) → between low high n ≡ true → Between low high n
within low high n e = let t = both (leb low n) _ e in (leb-true _ _ t.0, leb-true _ _ t.1)

is_within : (low high n : ℕ) → Between low high n → between low high n ≡ true
is_within low high n b = pass (le-leb _ _ b.0) (le-leb _ _ b.1)

pub record HeadFits (h : Head) : Type 0 where
  pub params : InRange h.params
  pub clock : h.clock ≤ last_clock
  pub path : h.path ≤ Fallback
  pub epoch : h.epoch ≤ 2

pub head-facts : (h : Head) → head_fits h ≡ true → HeadFits h
unfolding head_fits
head-facts h e =
    let e₀ = both (between 1 most_processes h.params.processes) _ e in
    let e₁ = both (between 1 most_hazards h.params.hazards) _ e₀.1 in
    let e₂ = both (between 1 most_nodes h.params.nodes) _ e₁.1 in
    let e₃ = both (between 1 most_ticks h.params.visibility_bound) _ e₂.1 in
    let e₄ = both (between 1 most_calls h.params.quiescence_threshold) _ e₃.1 in
    let e₅ = both (between 1 most_retired h.params.fallback_threshold) _ e₄.1 in
    let e₆ = both (leb h.params.lateness most_lateness) _ e₅.1 in
    let e₇ = both (leb h.clock last_clock) _ e₆.1 in
    let e₈ = both (leb h.path Fallback) _ e₇.1 in
    record {
      params = record {
        processes = within 1 most_processes _ e₀.0;
        hazards = within 1 most_hazards _ e₁.0;
        nodes = within 1 most_nodes _ e₂.0;
        visibility_bound = within 1 most_ticks _ e₃.0;
        quiescence_threshold = within 1 most_calls _ e₄.0;
        fallback_threshold = within 1 most_retired _ e₅.0;
        lateness = leb-true _ _ e₆.0;
      };
      clock = leb-true _ _ e₇.0;
      path = leb-true _ _ e₈.0;
      epoch = leb-true _ _ e₈.1;
    }

head-test : (h : Head) → HeadFits h → head_fits h ≡ true
unfolding head_fits
head-test h f =
    let r = f.params in
    pass (is_within 1 most_processes _ r.processes)
    (pass (is_within 1 most_hazards _ r.hazards)
    (pass (is_within 1 most_nodes _ r.nodes)
    (pass (is_within 1 most_ticks _ r.visibility_bound)
    (pass (is_within 1 most_calls _ r.quiescence_threshold)
    (pass (is_within 1 most_retired _ r.fallback_threshold)
    (pass (le-leb _ _ r.lateness)
    (pass (le-leb _ _ f.clock) (pass (le-leb _ _ f.path) (le-leb _ _ f.epoch)))))))))

-- ---- a layout whose test of the nodes stands for their facts

pub record Lawful (sh : Shape) : Type 0 where
  pub roomy : Roomy sh
  pub facts : (a : Params) (clock : ℕ) (r : List ℕ) → sh.nodes.fits a.processes clock a.nodes r ≡ true
      → All (NodeFits a clock) (sh.nodes.get a.nodes r)
  pub test : (a : Params) (clock : ℕ) (r : List ℕ) → All (NodeFits a clock) (sh.nodes.get a.nodes r)
      → sh.nodes.put (sh.nodes.get a.nodes r) ≡ r → sh.nodes.fits a.processes clock a.nodes r ≡ true

pub lawful : Lawful shape
lawful = record { roomy = roomy; facts = nodes-facts; test = λ a clock r f _. nodes-test a clock r f }

-- ---- the whole

module _ (sh : Shape) (law : Lawful sh) (ws : List ℕ) where
  abbrev h : Head
  h = sh.head.get ws

  abbrev a : Params
  a = (sh.head.get ws).params

  abbrev nodes_at : ℕ
  nodes_at = nodes_start sh a.processes a.hazards

  -- what the test asks, part by part
  record Passed : Type 0 where
    head : HeadFits h
    long : length ws ≡ word_count_by sh a
    processes : processes_fit_by sh a h.clock ws ≡ true
    nodes : nodes_fit_by sh a h.clock ws ≡ true

  passed : well_formed_by sh ws ≡ true → Passed
  unfolding well_formed_by
  passed e =
      let e₀ = both (head_fits h) _ e in
      let e₁ = both (eqb (length ws) (word_count_by sh a)) _ e₀.1 in
      let e₂ = both (processes_fit_by sh a h.clock ws) _ e₁.1 in
      record { head = head-facts h e₀.0; long = eqb-true _ _ e₁.0; processes = e₂.0; nodes = e₂.1 }

  abbrev process_test : ℕ → Bool
  process_test p = process_fits_by sh a h.clock ws (process_start sh a.hazards p)

  abbrev row_of : ℕ → List ℕ
  row_of p = take (process_width sh a.hazards) (drop (process_start sh a.hazards p) ws)

  -- a decoded process, by its place
  process-is : (p : ℕ) → p < a.processes → process_of (decode_by sh ws) p ≡ process_by sh a.hazards (row_of p)
  unfolding decode_by
  process-is p l =
      unrows-at (process_by sh a.hazards) (process_width sh a.hazards) no_process a.processes sh.head_width p ws l

  module _ (t : Passed) where
    process_at_lem : (p : ℕ) → p < a.processes
        → ProcessFits a h.clock (process_by sh a.hazards (row_of p)) × RowFits sh a.hazards (row_of p)
    process_at_lem p l =
        let i : process_start sh a.hazards p + process_width sh a.hazards ≤ length ws =
        omega (arith, t.long, below p a.processes (process_width sh a.hazards) l) in
        process-facts sh a h.clock ws (process_start sh a.hazards p) i (all-at process_test a.processes p t.processes l)

    nodes-long : length (drop nodes_at ws) ≡ sh.nodes.width a.nodes
    nodes-long = simp length-drop (omega (arith, t.long))

    well : WellFormed (decode_by sh ws)
    unfolding decode_by
    well =
        let d : Domain = decode_by sh ws in
        let n : length d.processes ≡ a.processes =
        length-unrows (process_by sh a.hazards) (process_width sh a.hazards) no_process a.processes (drop sh.head_width ws) in
        record {
          params = t.head.params;
          clock = t.head.clock;
          path = t.head.path;
          epoch = t.head.epoch;
          process_count = n;
          node_count = sh.nodes.count a.nodes (drop nodes_at ws);
          processes = all_of (ProcessFits d.params d.clock) no_process d.processes
              (λ p l. let q : p < a.processes = omega arith in rw (process-is p q) (process_at_lem p q).0);
          nodes = law.facts a h.clock (drop nodes_at ws) t.nodes;
        }

    sound : SoundBy sh ws
    sound =
        let r = t.head.params in
        record {
          domain = well;
          whole = sym (encode-decode sh ws (record {
            long = t.long;
            rows = λ p l. (process_at_lem p l).1;
            nodes = sh.nodes.forth a.processes h.clock a.nodes (drop nodes_at ws) nodes-long t.nodes;
          }));
          sizes = record {
            processes = r.processes;
            hazards = r.hazards;
            nodes = r.nodes;
            rows = rows-small sh a.processes a.hazards r.processes.1 r.hazards.1;
            long = t.long;
          };
        }

  module _ (s : SoundBy sh ws) where
    process-passes : (p : ℕ) → p < a.processes → process_test p ≡ true
    unfolding decode_by
    process-passes p l =
        let Fits : Process → Type 0 = ProcessFits a h.clock in
        let at : ℕ = process_start sh a.hazards p in
        let f : Fits (process_of (decode_by sh ws) p) =
        F.all-at Fits (decode_by sh ws).processes p no_process s.domain.processes (omega (arith, s.domain.process_count)) in
        let w : row_of p ≡ process_words_by sh (process_of (decode_by sh ws) p) =
        ap (λ (r : List ℕ). take (process_width sh a.hazards) (drop at r)) s.whole
        ∙ process-part sh (laid s.domain) p at (process_width sh a.hazards) l refl refl in
        process_test_lem sh a h.clock ws at (rw (process-is p l) at f) (rw (process-is p l) at w)

    nodes-pass : nodes_fit_by sh a h.clock ws ≡ true
    unfolding decode_by
    nodes-pass = law.test a h.clock (drop nodes_at ws) s.domain.nodes
        (sym (ap (λ (r : List ℕ). drop nodes_at r) s.whole ∙ nodes_part_lem sh (laid s.domain) nodes_at refl))

    head_fits_lem : HeadFits h
    unfolding decode_by
    head_fits_lem =
        let f = s.domain in
        record { params = f.params; clock = f.clock; path = f.path; epoch = f.epoch }

    passes : well_formed_by sh ws ≡ true
    unfolding well_formed_by
    passes =
        pass (head-test h head_fits_lem)
        (pass (eq-eqb _ _ s.sizes.long) (pass (all_yes process_test a.processes process-passes) nodes-pass))

-- ---- the paper's layout

pub well-formed-sound : (ws : List ℕ) → well_formed ws ≡ true → Sound ws
well-formed-sound ws e = sound shape lawful ws (passed shape lawful ws e)

pub sound-well-formed : {ws : List ℕ} → Sound ws → well_formed ws ≡ true
sound-well-formed {ws} s = passes shape lawful ws s

pub well-formed-encode : {d : Domain} → WellFormed d → well_formed (encode d) ≡ true
well-formed-encode f = sound-well-formed (sound-encode f)
