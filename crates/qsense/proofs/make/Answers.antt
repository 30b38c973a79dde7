-- `qsense::make` meets its contract: the two tests, and then the words of a fresh domain. Assumes nothing.
use mathlib.Core.Path.{◌≡◌, sym, ◌∙◌}
use mathlib.Core.Logic.{◌≢◌}
use native.Mathlib.Omega.{arith}
use borrow.Author.Tests.{eq-eqb, ne_eqb}
use lib.ListN.{length}
use Rattle.model.specs.Params.{word_count}
use Rattle.layout.specs.Values.{params_value}
use Rattle.layout.proofs.Ranges.{in_range_lem, length-in-range}
use Rattle.qsense.specs.Calls.{make_words}
use Rattle.qsense.proofs.make.Goals as goal

pub returns-then-not-in_range : goal.returns-then-not-in_range
unfolding make_words
returns-then-not-in_range c = rw (sym c.in_range.ensures ∙ c.if-not-in_range.true)

pub returns-then-words-wide : goal.returns-then-words-wide
unfolding make_words
returns-then-words-wide c =
    let a = c.args in
    let yes' = sym c.in_range.ensures ∙ c.if-not-in_range.false in
    let long = length-in-range (params_value a.params) yes' in
    let other : length a.words.now ≢ word_count (params_value a.params) = λ e. omega (arith, long, c.if-words-wide.true) in
    rw (yes', ne_eqb _ _ other)

pub write_fresh-requires : goal.write_fresh-requires
write_fresh-requires c =
    let a = params_value c.args.params in
    let long = length-in-range a (sym c.in_range.ensures ∙ c.if-not-in_range.false) in
    (in_range_lem a (sym c.in_range.ensures ∙ c.if-not-in_range.false), omega (arith, long))

pub returns : goal.returns
unfolding make_words
returns c =
    let a = c.args in
    let yes' = sym c.in_range.ensures ∙ c.if-not-in_range.false in
    let wide = length-in-range (params_value a.params) yes' in
    let long : length a.words.now ≡ word_count (params_value a.params) = omega (arith, wide) in
    rw (yes', eq-eqb _ _ long)
    (λ t. record { refusal = 0; value = 0; words = c.write_fresh.ensures t })
