-- A list whose elements move down by w places, one after the other. Assumes nothing.
use Prim.Native.Nat.{ℕ, ◌+◌, ◌≤◌, ◌<◌}
use mathlib.Core.List.{List, [], ◌++◌, append-nil}
use mathlib.Core.Path.{◌≡◌, ap, sym, ◌∙◌}
use native.Mathlib.Omega.{arith}
use native.Mathlib.Nat.{zero-add}
use native.Mathlib.Numerals.{add-one}
use lib.ListN.{length, take, drop, get_or, set, length-drop, drop_of_length-le}
use lib.Seq.{paste, paste-zero, paste-suc, length-paste, take-paste, drop-paste, get_or-drop, take_all, sets, sets-eq}

-- q after j moves
unfoldable pub moved : ℕ → ℕ → List ℕ → List ℕ
moved w j q = paste q 0 (drop w q) j

pub moved_none : (w : ℕ) (q : List ℕ) → q ≡ moved w 0 q
unfolding moved
moved_none w q = paste-zero q 0 (drop w q)

module _ (w j : ℕ) (q : List ℕ) where
  length_moved : j + w ≤ length q → length (moved w j q) ≡ length q
  unfolding moved
  length_moved h =
      let a : 0 + j ≤ length q = omega arith in
      let b : j ≤ length (drop w q) = simp length-drop (omega arith) in
      length-paste q 0 (drop w q) j a b

  pub moved_more : j + w < length q → set (moved w j q) j (get_or (moved w j q) (j + w) 0) ≡ moved w (j + 1) q
  unfolding moved
  moved_more h =
      let p : List ℕ = paste q 0 (drop w q) j in
      let a : 0 + j < length q = omega arith in
      let b : j < length (drop w q) = simp length-drop (omega arith) in
      let e : get_or p (j + w) 0 ≡ get_or (drop w q) j 0 =
      sym (ap (λ (i : ℕ). get_or p (i + w) 0) (zero-add j))
      ∙ (sym (get_or-drop (0 + j) p w 0)
      ∙ (ap (λ (l : List ℕ). get_or l w 0) (drop-paste q 0 (drop w q) j (omega arith) (omega arith))
      ∙ (get_or-drop (0 + j) q w 0 ∙ (ap (λ (i : ℕ). get_or q i 0) (omega arith) ∙ sym (get_or-drop w q j 0))))) in
      ap (λ (v : ℕ). set p j v) e
      ∙ (ap (λ (i : ℕ). set p i (get_or (drop w q) j 0)) (sym (zero-add j))
      ∙ (paste-suc q 0 (drop w q) j 0 a b ∙ ap (λ (i : ℕ). paste q 0 (drop w q) i) (sym (add-one j))))

taken : (w n : ℕ) (q : List ℕ) → length q ≡ n + w → take n (moved w n q) ≡ drop w q
unfolding moved
taken w n q h =
    let b : n ≤ length (drop w q) = simp length-drop (omega arith) in
    let c : length (drop w q) ≤ n = simp length-drop (omega arith) in
    sym (ap (λ (i : ℕ). take i (paste q 0 (drop w q) n)) (zero-add n))
    ∙ (take-paste q 0 (drop w q) n (omega arith) b ∙ take_all n (drop w q) c)

-- all moved, and the last w places written
pub moved-end : (w n : ℕ) (q zs : List ℕ) → length q ≡ n + w → length zs ≡ w → sets (moved w n q) n zs ≡ drop w q ++ zs
moved-end w n q zs h e =
    let k : n + w ≤ length q = omega arith in
    let l : length (moved w n q) ≡ length q = length_moved w n q k in
    let m : n + length zs ≤ length (moved w n q) = omega arith in
    let t : take n (moved w n q) ≡ drop w q = taken w n q h in
    let z : drop (n + length zs) (moved w n q) ≡ [] = drop_of_length-le (moved w n q) {i = n + length zs} (omega arith) in
    sets-eq zs (moved w n q) n m ∙ rw (t, z, append-nil)
