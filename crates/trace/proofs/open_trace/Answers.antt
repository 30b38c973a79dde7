-- `trace::open_trace` meets its contract: at each return the tests that led there say which question has the answer no. Assumes nothing.
use mathlib.Core.Bool.{Bool}
use mathlib.Core.List.{List}
use Prim.Native.Nat.{ℕ}
use mathlib.Core.Path.{◌≡◌, sym, ap, ◌∙◌}
use Rattle.layout.specs.Ranges.{in_range}
use Rattle.trace.specs.Trace.{given, Front, params_of, front_at, front_of}
use Rattle.trace.proofs.Opening.{too_long, no-trailer, trailer-fits, out_of_range, opens}
use native.Mathlib.Omega.{arith}
use Rattle.trace.proofs.open_trace.Goals as goal

ranges : (bs : List ℕ) (h : Front) {r : Bool} → h ≡ front_at bs → r ≡ in_range h.params → in_range (params_of bs) ≡ r
ranges bs h e i = sym (i ∙ ap (λ (f : Front). in_range f.params) e)

pub returns-then-bytes-gt-BYTES : goal.returns-then-bytes-gt-BYTES
unfolding front_of
returns-then-bytes-gt-BYTES c = let bs = c.args.bytes.now in sym (too_long bs (front_at bs) (omega arith))

pub returns-then-not-trailer_right : goal.returns-then-not-trailer_right
unfolding front_of
returns-then-not-trailer_right c =
    let bs = c.args.bytes.now in
    sym (no-trailer bs (front_at bs) (omega arith) (sym c.trailer_right.ensures ∙ c.if-not-trailer_right.true))

pub header_of-header-requires : goal.header_of-header-requires
header_of-header-requires c = let f = trailer-fits c.args.bytes.now (sym c.trailer_right.ensures ∙ c.if-not-trailer_right.false) in (omega arith, omega arith)

pub returns-then-not-in_range : goal.returns-then-not-in_range
unfolding front_of
returns-then-not-in_range c =
    let bs = c.args.bytes.now in
    let right = sym c.trailer_right.ensures ∙ c.if-not-trailer_right.false in
    sym (out_of_range bs (front_at bs) (omega arith) right (ranges bs _ c.header_of-header.ensures c.in_range.ensures ∙ c.if-not-in_range.true))

pub returns : goal.returns
unfolding front_of
returns c =
    let bs = c.args.bytes.now in
    let right = sym c.trailer_right.ensures ∙ c.if-not-trailer_right.false in
    ap given c.header_of-header.ensures
    ∙ sym (opens bs (front_at bs) (omega arith) right (ranges bs _ c.header_of-header.ensures c.in_range.ensures ∙ c.if-not-in_range.false))
