-- What a head in its ranges and the right length give the check of processes and nodes, and what the first tests say of the whole.
-- Assumes nothing.
use Rattle.std.proofs.Common.{◌≡◌, ℕ, ◌+◌, ◌-◌, ◌<◌, ◌≤◌, Bool, true, false, ◌&&◌, List, length, take, drop, ap, ◌∙◌, arith, length-drop, length-take, take_all, eq-eqb, ne_eqb}
use mathlib.Core.Bool.{and-false}
use Rattle.model.specs.Params.{Params, most_nodes}
use Rattle.layout.specs.Shape.{Head, nodes_start, word_count_by}
use Rattle.layout.specs.Encode.{shape, decode, decode_by, nodes_part}
use Rattle.layout.specs.Nodes.{nodes_in, nodes_fit}
use Rattle.layout.specs.Words.{head_fits, processes_fit, well_formed_by, well_formed}
use Rattle.layout.proofs.Room.{rows-small}
use Rattle.layout.proofs.Checked.{head-facts}
use Rattle.nodes.specs.Part.{Part}
use Rattle.wellformed.specs.ProcessLimits.{Ready}

module _ (ws : List ℕ) where
  abbrev h₀ : Head
  h₀ = shape.head.get ws

  abbrev a₀ : Params
  a₀ = (shape.head.get ws).params

  pub ready : head_fits h₀ ≡ true → length ws ≡ word_count_by shape a₀ → Ready ws
  ready h e =
      let r = (head-facts h₀ h).params in
      record {
        sizes = record {
          processes = r.processes;
          hazards = r.hazards;
          nodes = r.nodes;
          rows = rows-small shape a₀.processes a₀.hazards r.processes.1 r.hazards.1;
          long = e;
        };
        quiescence = r.quiescence_threshold.0;
      }

  -- the four ways out of the check
  pub bad-length : (length ws ≡ word_count_by shape a₀ → ⊥) → false ≡ well_formed ws
  unfolding well_formed_by
  bad-length h = rw (ne_eqb (length ws) (word_count_by shape a₀) h, and-false (head_fits h₀))

  pub too_short : length ws < shape.head_width → false ≡ well_formed ws
  too_short h = bad-length (λ e. omega arith)

  pub bad-head : head_fits h₀ ≡ false → false ≡ well_formed ws
  unfolding well_formed_by
  bad-head h = rw h

  pub all-fits : (x y : Bool) → head_fits h₀ ≡ true → length ws ≡ word_count_by shape a₀ → x ≡ processes_fit ws
      → y ≡ (x && nodes_fit a₀.processes h₀.clock a₀.nodes (nodes_part ws)) → y ≡ well_formed ws
  unfolding well_formed_by
  all-fits x y h e hx hy = rw (hy, hx, h, eq-eqb (length ws) (word_count_by shape a₀) e)

  -- the nodes' part, from a on, as it is lent
  module _ {a : ℕ} (e : a ≡ nodes_start shape a₀.processes a₀.hazards) where
    part-is : take (length ws - a) (drop a ws) ≡ nodes_part ws
    part-is =
        take_all (length ws - a) (drop a ws) (simp length-drop (omega arith)) ∙ ap (λ (b : ℕ). drop b ws) e

    pub nodes-are : nodes_fit a₀.processes h₀.clock a₀.nodes (take (length ws - a) (drop a ws))
        ≡ nodes_fit a₀.processes h₀.clock a₀.nodes (nodes_part ws)
    nodes-are = ap (nodes_fit a₀.processes h₀.clock a₀.nodes) part-is

    pub nodes_in_lem : nodes_in a₀.nodes (take (length ws - a) (drop a ws)) ≡ (decode ws).nodes
    unfolding decode_by
    nodes_in_lem = ap (nodes_in a₀.nodes) part-is

    pub nodes-lent : a₀.nodes ≤ most_nodes → length ws ≡ word_count_by shape a₀ → Part a₀.nodes (take (length ws - a) (drop a ws))
    nodes-lent few long =
        record { few = few; long = simp (length-take, length-drop) (omega arith) }

  -- the length that the code compares with
  pub words_long : {a w : ℕ} → a ≡ nodes_start shape a₀.processes a₀.hazards → w ≡ shape.nodes.width a₀.nodes → a + w ≡ word_count_by shape a₀
  words_long ea ew = λ t. ea t + ew t
