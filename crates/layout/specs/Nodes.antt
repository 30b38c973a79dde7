-- The nodes' part of the words in the paper's layout: one row of words a node, one after the other. What is said of a node's words
-- outside is said by `nodes_codec`. Assumes nothing.
use Rattle.std.specs.Prelude.{ℕ, ◌+◌, ◌*◌, Bool, true, not, ◌&&◌, ◌||◌, List, [], ◌≡◌, refl, length, leb, ltb, eqb}
use Rattle.std.proofs.Common.{append-nil, ◌∙◌, arith, mul_comm, take_all}
use Rattle.lists.specs.Tests.{implies}
use Rattle.lists.specs.Upto.{all_upto}
use Rattle.lists.specs.Rows.{rows, unrows}
use Rattle.lists.proofs.Rows.{length-unrows, codec-length, codec-unrows, codec-rows}
use Rattle.model.specs.Params.{node_width}
use Rattle.model.specs.State.{Node, Free, Reachable, Retired, free_node}
use Rattle.layout.specs.Shape.{word, NodesCodec}
use Rattle.layout.specs.Codecs.{node_words, node_at, node_codec}

-- m nodes and their words
abbrev pub nodes_in : ℕ → List ℕ → List Node
nodes_in m r = unrows node_at node_width m r

abbrev pub nodes_words : List Node → List ℕ
nodes_words ns = rows node_words ns

-- a node whose words start at place a, with n processes: state, owner, guest, retired_at, limbo
unfoldable pub node_fits : ℕ → ℕ → List ℕ → ℕ → Bool
node_fits n clock ws a =
    leb (word ws a) Retired
    && (ltb (word ws (a + 1)) n
    && (leb (word ws (a + 3)) clock
    && (leb (word ws (a + 4)) 2
    && (implies (eqb (word ws a) Free || eqb (word ws a) Reachable) (eqb (word ws (a + 1)) 0)
    && (implies (not (eqb (word ws a) Retired)) (eqb (word ws (a + 3)) 0 && eqb (word ws (a + 4)) 0)
    && implies (eqb (word ws a) Free) (eqb (word ws (a + 2)) 0))))))

unfoldable pub nodes_fit : ℕ → ℕ → ℕ → List ℕ → Bool
nodes_fit n clock m r = all_upto (λ c. node_fits n clock r (node_width * c)) m

pub nodes-long : (ns : List Node) → length (nodes_words ns) ≡ node_width * length ns
nodes-long ns = codec-length node_codec ns ∙ mul_comm (length ns) node_width

pub nodes-forth : (m : ℕ) (r : List ℕ) → length r ≡ node_width * m → nodes_words (nodes_in m r) ≡ r
nodes-forth m r h = codec-rows node_codec m r (omega arith) ∙ take_all (m * node_width) r (omega arith)

abbrev pub nodes_codec : NodesCodec
nodes_codec =
    record {
      width = λ m. node_width * m;
      put = nodes_words;
      get = nodes_in;
      fits = nodes_fit;
      holds = λ _. true;
      long = nodes-long;
      count = λ m r. length-unrows node_at node_width free_node m r;
      back = λ ns _. rw append-nil at (codec-unrows node_codec ns [] (λ _. refl));
      forth = λ n clock m r h _. nodes-forth m r h;
    }
