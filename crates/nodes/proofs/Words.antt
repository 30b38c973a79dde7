-- The nodes of a part and its words: each says the other, a word of a node, a node written. Assumes nothing.
use Prim.Native.Nat.{ℕ, suc, ◌+◌, ◌*◌, ◌≤◌, ◌<◌}
use mathlib.Core.List.{List, [], ◌∷◌, append-nil}
use mathlib.Core.Path.{◌≡◌, refl, ap, sym, ◌∙◌}
use native.Mathlib.Omega.{arith}
use native.Mathlib.Nat.{add-zero}
use lib.ListN.{length, get_or, set, length-set}
use lib.Seq.{get_or-set_same, set-get_or, set-set, sets}
use Rattle.lists.proofs.Rows.{length-rows, rows-get_d, rows-set, rows-sets, length-unrows, unrows-rows}
use Rattle.model.specs.Params.{most_nodes, node_width}
use Rattle.model.specs.State.{Node, free_node}
use Rattle.layout.specs.Nodes.{nodes_in, nodes_words, nodes-forth}
use Rattle.layout.specs.Codecs.{node_words, node_at}
use Rattle.nodes.specs.Part.{node_in, Part, with_node, in_state}

pub nodes-length : (m : ℕ) (r : List ℕ) → length (nodes_in m r) ≡ m
nodes-length m r = length-unrows node_at node_width free_node m r

-- the words of m nodes are a part, and hold those nodes
module _ {m : ℕ} (ns : List Node) (e : length ns ≡ m) where
  pub nodes-back : nodes_in m (nodes_words ns) ≡ ns
  nodes-back = rw (← e) (rw append-nil at (unrows-rows node_at node_width free_node node_words ns [] (λ _ _. refl) (λ _ _. refl)))

  pub part-rows : m ≤ most_nodes → Part m (nodes_words ns)
  part-rows h = record { few = h; long = omega (arith, length-rows node_words node_width free_node ns (λ _ _. refl)) }

module _ {m : ℕ} {r : List ℕ} (h : Part m r) where
  -- a part is the words of its nodes
  pub part-words : r ≡ nodes_words (nodes_in m r)
  part-words = sym (nodes-forth m r h.long)

  pub part-kept : (c : ℕ) → r ≡ with_node m r c (node_in m r c)
  part-kept c = part-words ∙ ap nodes_words (sym (set-get_or (nodes_in m r) c free_node))

  -- node c written: a part again, of the nodes with that one
  module _ (c : ℕ) (n : Node) where
    many : length (set (nodes_in m r) c n) ≡ m
    many = length-set (nodes_in m r) c n ∙ nodes-length m r

    pub part-with : Part m (with_node m r c n)
    part-with = part-rows (set (nodes_in m r) c n) many h.few

    pub nodes-with : nodes_in m (with_node m r c n) ≡ set (nodes_in m r) c n
    nodes-with = nodes-back (set (nodes_in m r) c n) many

  -- node c, whose words start at a
  module _ {c a : ℕ} (l : c < m) (e : a ≡ node_width * c) where
    inside : c < length (nodes_in m r)
    inside = rw (nodes-length m r) l

    at : (j : ℕ) → a + j ≡ c * node_width + j
    at j = omega arith

    pub word_at : (j : ℕ) → j < node_width → get_or r (a + j) 0 ≡ get_or (node_words (node_in m r c)) j 0
    word_at j k =
        ap (λ (w : List ℕ). get_or w (a + j) 0) part-words
        ∙ rw (at j) (rows-get_d node_words node_width free_node (nodes_in m r) c j 0 (λ _ _. refl) inside k)

    -- a word of it, once the node is n
    pub word_more : {r' : List ℕ} (n : Node) → r' ≡ with_node m r c n → (j v : ℕ) (n' : Node) → j < node_width → set (node_words n) j v ≡ node_words n'
        → set r' (a + j) v ≡ with_node m r c n'
    word_more n e j v n' k q =
        let ns : List Node = set (nodes_in m r) c n in
        let there : c < length ns = rw (many c n) l in
        let same = get_or-set_same (nodes_in m r) c n free_node inside in
        ap (λ (w : List ℕ). set w (a + j) v) e
        ∙ rw (at j) (rows-set node_words node_width free_node ns c j v n' (λ _ _. refl) there k (ap (λ (x : Node). set (node_words x) j v) same ∙ q))
        ∙ ap nodes_words (set-set (nodes_in m r) c n n')

    pub word_set : (j v : ℕ) (n : Node) → j < node_width → set (node_words (node_in m r c)) j v ≡ node_words n → set r (a + j) v ≡ with_node m r c n
    word_set = word_more (node_in m r c) (part-kept c)

    pub node-set : (n : Node) → sets r a (node_words n) ≡ with_node m r c n
    node-set n =
        let q : a ≡ c * node_width = omega arith in
        ap (λ (w : List ℕ). sets w a (node_words n)) part-words
        ∙ rw q (rows-sets node_words node_width free_node (nodes_in m r) c n (λ _ _. refl) inside refl)

    pub state-set : (v : ℕ) → set r (a + 0) v ≡ with_node m r c (in_state v (node_in m r c))
    state-set v = word_set 0 v (in_state v (node_in m r c)) (omega arith) refl

    -- the words after it, once the state is that of n
    pub rest-set : {r' : List ℕ} (n : Node) → r' ≡ with_node m r c (in_state n.state (node_in m r c))
        → sets r' (suc a) (n.owner ∷ n.guest ∷ n.retired_at ∷ n.limbo ∷ []) ≡ with_node m r c n
    rest-set n q =
        ap (λ (w : List ℕ). sets w (suc a) (n.owner ∷ n.guest ∷ n.retired_at ∷ n.limbo ∷ [])) (q ∙ sym (ap (λ (i : ℕ). set r i n.state) (sym (add-zero a)) ∙ state-set n.state))
        ∙ node-set n
