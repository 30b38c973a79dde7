-- Words of a well-formed domain: its words are sound, and of sound words the head, a process and the nodes, read and written.
-- Assumes nothing.
use Prim.Native.Nat.{ℕ, ◌+◌, ◌-◌, ◌<◌, ◌≤◌}
use mathlib.Core.List.{List}
use mathlib.Core.Path.{◌≡◌, refl, ◌∙◌, ap}
use native.Mathlib.Omega.{arith}
use lib.ListN.{length, take, drop}
use borrow.Rule.Slice.PartMut.{put_mid}
use Rattle.lists.proofs.Rows.{below}
use Rattle.model.specs.Params.{Params}
use Rattle.model.specs.State.{Process, Node, Domain, process_of, with_nodes, set_process}
use Rattle.model.specs.WellFormed.{WellFormed}
use Rattle.layout.specs.Shape.{Shape, process_width, process_start, nodes_start}
use Rattle.layout.specs.Encode.{shape, process_words, encode, decode, encode_by, decode_by, params_in}
use Rattle.layout.specs.Sound.{SizesBy, SoundBy, Sound}
use Rattle.layout.proofs.Room.{rows-small}
use Rattle.layout.proofs.Encode.{Roomy, laid, encode-length, decode-encode, process-part, process-put}
use Rattle.layout.proofs.Encode.{nodes-lent}

-- ---- in any layout that holds every well-formed domain

module _ (sh : Shape) (holds : Roomy sh) {d : Domain} (f : WellFormed d) where
  sizes-by : SizesBy sh d.params (encode_by sh d)
  sizes-by =
      let r = f.params in
      record {
        processes = r.processes;
        hazards = r.hazards;
        nodes = r.nodes;
        rows = rows-small sh d.params.processes d.params.hazards r.processes.1 r.hazards.1;
        long = encode-length sh (laid f);
      }

  params-by : (sh.head.get (encode_by sh d)).params ≡ d.params
  unfolding decode_by
  params-by = ap (λ (x : Domain). x.params) (decode-encode sh holds f)

  pub sound-by : SoundBy sh (encode_by sh d)
  sound-by =
      let e : decode_by sh (encode_by sh d) ≡ d = decode-encode sh holds f in
      record { domain = rw e f; whole = rw e; sizes = rw params-by sizes-by }

-- ---- in the paper's

pub roomy : Roomy shape
roomy = record { head = λ _. refl; lead = λ _ _ _ _. refl; node = λ _ _ _ _. refl }

pub sound-encode : {d : Domain} → WellFormed d → Sound (encode d)
sound-encode f = sound-by shape roomy f

module _ {ws : List ℕ} {d : Domain} (e : ws ≡ encode d) (f : WellFormed d) where
  pub decoded : decode ws ≡ d
  decoded = ap (λ (r : List ℕ). decode r) e ∙ decode-encode shape roomy f

  pub sound-at : Sound ws
  sound-at = rw e (sound-encode f)

-- the sizes that words begin with are those of the domain
pub record HeadWords (ws : List ℕ) : Type 0 where
  pub processes : (params_in ws).processes ≡ (decode ws).params.processes
  pub hazards : (params_in ws).hazards ≡ (decode ws).params.hazards
  pub nodes : (params_in ws).nodes ≡ (decode ws).params.nodes

pub head_words_lem : (ws : List ℕ) → HeadWords ws
unfolding decode_by
head_words_lem ws = record { processes = refl; hazards = refl; nodes = refl }

module _ {ws : List ℕ} (s : Sound ws) where
  abbrev a₀ : Params
  a₀ = params_in ws

  -- ---- process p, w words from a on

  module _ (p k a w : ℕ) (h : p < a₀.processes) (ek : k ≡ a₀.hazards) (ea : a ≡ process_start shape k p) (ew : w ≡ process_width shape k) where
    pub process-room : a + w ≤ length ws
    process-room = rw (ea, ew, ek) (omega (arith, below p a₀.processes (process_width shape a₀.hazards) h, s.sizes.long))

    pub process-row : take w (drop a ws) ≡ process_words (process_of (decode ws) p)
    unfolding decode_by
    process-row =
        ap (λ (r : List ℕ). take w (drop a r)) s.whole
        ∙ process-part shape (laid s.domain) p a w h (rw (← ek) ea) (rw (← ek) ew)

    pub process-written : (x : Process) → put_mid a w ws (process_words x) ≡ encode (set_process (decode ws) p x)
    unfolding decode_by
    process-written x =
        ap (λ (r : List ℕ). put_mid a w r (process_words x)) s.whole
        ∙ process-put shape (laid s.domain) p a w h (rw (← ek) ea) (rw (← ek) ew) x

  -- ---- the nodes, from a on

  module _ (a : ℕ) (ea : a ≡ nodes_start shape a₀.processes a₀.hazards) where
    pub nodes-written : (w : ℕ) (ns : List Node) → w ≡ length ws - a
        → put_mid a w ws (shape.nodes.put ns) ≡ encode (with_nodes (decode ws) ns)
    unfolding decode_by
    nodes-written w ns ew =
        ap (λ (r : List ℕ). put_mid a w r (shape.nodes.put ns)) s.whole
        ∙ nodes-lent shape (laid s.domain) a ea w ns (rw (← s.whole) ew)
