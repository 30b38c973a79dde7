-- The words of a fresh domain: its seven parameters, 1 for each process that it is present, and 0 elsewhere. Assumes nothing.
use Prim.Native.Nat.{ℕ, zero, suc, ◌+◌, ◌*◌}
use mathlib.Core.List.{List, [], ◌∷◌, ◌++◌, append_assoc}
use mathlib.Core.Path.{◌≡◌, refl, sym, ◌∙◌, ap}
use native.Mathlib.Omega.{arith}
use lib.ListN.{length, set, replicate, replicate-append-replicate, length-replicate}
use lib.Seq.{sets}
use Rattle.lists.specs.Rows.{rows}
use Rattle.lists.proofs.Rows.{rows-zeros, repeat-length, rows-repeat, set-append-add}
use Rattle.model.specs.Params.{Params, head_width, lead_width, hazard_width, buffer_width, node_width, word_count}
use Rattle.model.specs.State.{Process, free_node, empty_hazard}
use Rattle.model.specs.Machine.{fresh}
use Rattle.layout.specs.Shape.{process_width, process_start}
use Rattle.layout.specs.Codecs.{hazard_words, node_words, present_word}
use Rattle.layout.specs.Encode.{shape, process_words, process_words_by, encode, encode_by}
use Rattle.layout.proofs.Encode.{process_width_lem}

-- N, K, M, T, Q, C, E
abbrev pub param_words : Params → List ℕ
param_words a =
    a.processes ∷ a.hazards ∷ a.nodes ∷ a.visibility_bound ∷ a.quiescence_threshold ∷ a.fallback_threshold ∷ a.lateness ∷ []

-- words ws with the first n processes present, with k hazards a process
abbrev pub present_to : ℕ → ℕ → List ℕ → List ℕ
present_to k zero ws = ws
present_to k (suc n) ws = set (present_to k n ws) (process_start shape k n + present_word) 1

-- as many as there are
pub present-all : (k p n : ℕ) (ws w : List ℕ) → w ≡ present_to k p ws → p ≡ n → w ≡ present_to k n ws
present-all k p n ws w e f = e ∙ ap (λ (m : ℕ). present_to k m ws) f

abbrev fresh_process : ℕ → Process
fresh_process k = record { epoch = 0; calls = 0; presence = 0; present = 1; buffer = []; hazards = replicate k empty_hazard }

fresh-width : (k : ℕ) → length (process_words (fresh_process k)) ≡ process_width shape k
fresh-width k = process_width_lem shape (fresh_process k) k (length-replicate k empty_hazard) (omega arith)

-- zeros for a process and r more, with its word `present` set
fresh_process_lem : (k r : ℕ) → set (replicate (process_width shape k + r) 0) present_word 1 ≡ process_words (fresh_process k) ++ replicate r 0
unfolding process_words_by
fresh_process_lem k r =
    let m : ℕ = k * hazard_width + (buffer_width + r) in
    let e : process_width shape k + r ≡ lead_width + m = omega arith in
    let split : replicate {A = ℕ} (process_width shape k + r) 0 ≡ replicate lead_width 0 ++ replicate m 0 =
    rw e (sym (replicate-append-replicate {A = ℕ} lead_width m 0)) in
    let zeros : rows hazard_words (replicate k empty_hazard) ++ replicate buffer_width 0 ≡ replicate (k * hazard_width + buffer_width) 0 =
    rw (rows-zeros hazard_words hazard_width k empty_hazard refl) (replicate-append-replicate {A = ℕ} (k * hazard_width) buffer_width 0) in
    let sum : k * hazard_width + buffer_width + r ≡ m = omega arith in
    let rest : (rows hazard_words (replicate k empty_hazard) ++ replicate buffer_width 0) ++ replicate r 0 ≡ replicate m 0 =
    rw zeros (replicate-append-replicate {A = ℕ} (k * hazard_width + buffer_width) r 0 ∙ ap (λ (n : ℕ). replicate {A = ℕ} n 0) sum) in
    ap (λ (z : List ℕ). set z present_word 1) split
    ∙ ap (λ (z : List ℕ). 0 ∷ 0 ∷ 0 ∷ 0 ∷ 1 ∷ z) (sym rest)

module _ (k : ℕ) (hs : List ℕ) (hw : length hs ≡ head_width) where
  -- a head and zeros, with the first n processes present
  all-present : (n r : ℕ) → present_to k n (hs ++ replicate (n * process_width shape k + r) 0)
      ≡ hs ++ (rows process_words (replicate n (fresh_process k)) ++ replicate r 0)
  all-present zero r = let e : 0 * process_width shape k + r ≡ r = omega arith in rw e
  all-present (suc n) r =
      let w : ℕ = process_width shape k in
      let ps : List ℕ = rows process_words (replicate n (fresh_process k)) in
      let e : suc n * w + r ≡ n * w + (w + r) = omega arith in
      let here : process_start shape k n + present_word ≡ length hs + (n * w + present_word) = omega arith in
      let there : n * w + present_word ≡ length ps + present_word = omega (arith, repeat-length process_words (fresh_process k) w n (fresh-width k)) in
      rw (e, all-present n (w + r), here, set-append-add hs (ps ++ replicate (w + r) 0) (n * w + present_word) 1)
      (ap (λ (z : List ℕ). hs ++ z)
      (ap (λ (i : ℕ). set (ps ++ replicate (w + r) 0) i 1) there
      ∙ set-append-add ps (replicate (w + r) 0) present_word 1
      ∙ ap (λ (z : List ℕ). ps ++ z) (fresh_process_lem k r)
      ∙ sym (append_assoc ps (process_words (fresh_process k)) (replicate r 0))
      ∙ ap (λ (z : List ℕ). z ++ replicate r 0) (sym (rows-repeat process_words (fresh_process k) n))))

-- n zeros, then the parameters stored into the first seven, and the processes present
pub fresh-words : (a : Params) (n : ℕ) → n ≡ word_count a
    → present_to a.hazards a.processes (sets (replicate n 0) 0 (param_words a)) ≡ encode (fresh a)
unfolding encode_by fresh
fresh-words a n e =
    let k : ℕ = a.hazards in
    let m : ℕ = a.processes * process_width shape k + a.nodes * node_width in
    let hs : List ℕ = param_words a ++ (0 ∷ 0 ∷ 0 ∷ []) in
    let long : n ≡ head_width + m = omega arith in
    let zeros : replicate {A = ℕ} n 0 ≡ replicate head_width 0 ++ replicate m 0 = rw long (sym (replicate-append-replicate {A = ℕ} head_width m 0)) in
    ap (λ (z : List ℕ). present_to k a.processes (sets z 0 (param_words a))) zeros
    ∙ all-present k hs refl a.processes (a.nodes * node_width)
    ∙ ap (λ (z : List ℕ). hs ++ (rows process_words (replicate a.processes (fresh_process k)) ++ z))
    (sym (rows-zeros node_words node_width a.nodes free_node refl))
