-- Each line of specs/Cases.antt is what is printed, by computation. Assumes nothing.
use Prim.Native.Nat.{ℕ}
use mathlib.Core.List.{List, [], ◌∷◌, ◌++◌}
use mathlib.Core.Path.{◌≡◌, refl, ap, ◌∙◌}
use lib.ListN.{replicate}
use Rattle.lists.specs.Tests.{All}
use Rattle.lists.specs.Upto.{all_upto}
use Rattle.model.specs.Machine.{step, fresh}
use Rattle.model.specs.Why.{NotRetired, Visible, NotAsked, Nobody, why, Refused, Told, explained}
use Rattle.model.proofs.Each.{◌then◌}
use Rattle.layout.specs.Encode.{decode_by, process_by}
use Rattle.layout.specs.Words.{well_formed_by, head_fits, lead_fits, hazard_fits, store_fits, process_fits_by}
use Rattle.layout.specs.Nodes.{nodes_fit, node_fits}
use Rattle.trace.specs.Bytes.{word_at, mark_at}
use Rattle.trace.specs.Trace.{trace_of, questioned, trailer_right}
use Rattle.trace.specs.Cases.{paper_bytes, paper_trace, mark}
use Rattle.trace.specs.Written.{word_bytes}
use Rattle.trace.proofs.AtTheEdge.{paper-read}
use Rattle.text.specs.Text.{digits, digit_count}
use Rattle.replay.specs.Turn.{end_of}
use Rattle.qsense.specs.Calls.{why_words}
use Rattle.explain.specs.Number.{number_in}
use Rattle.explain.specs.Sentence.{sentence}
use Rattle.explain.specs.Input.{in_book, explained_in}
use Rattle.explain.specs.Explains.{printed}
use Rattle.explain.specs.Cases.{fresh_bytes, Printed, cases}

-- the paper's book is run to its end
in-paper : (c : ℕ) → explained_in c paper_bytes ≡ explained (end_of paper_trace) c
unfolding explained_in mark_at
in-paper c = ap (in_book c) paper-read

-- and its cards 0, 1 and 2 are these
told-0 : explained (end_of paper_trace) 0 ≡ Told (record { reason = Visible 1 0; behind = NotAsked })
unfolding why step fresh
told-0 = refl

told-1 : explained (end_of paper_trace) 1 ≡ Told (record { reason = NotRetired 0; behind = NotAsked })
unfolding why step fresh
told-1 = refl

told-2 : explained (end_of paper_trace) 2 ≡ Refused 7
unfolding step fresh
told-2 = refl

-- a domain's words
words : List ℕ
words = 1 ∷ 1 ∷ 1 ∷ 1 ∷ 1 ∷ 1 ∷ 0 ∷ 0 ∷ 0 ∷ 0 ∷ 0 ∷ 0 ∷ 0 ∷ 0 ∷ 1 ∷ replicate 32 0

in-fresh : (c : ℕ) → explained_in c fresh_bytes ≡ why_words words c
unfolding explained_in mark_at word_at word_bytes words
in-fresh c = refl

fresh-0 : why_words words 0 ≡ Told (record { reason = NotRetired 0; behind = Nobody })
unfolding why_words well_formed_by head_fits lead_fits hazard_fits store_fits process_fits_by all_upto nodes_fit node_fits decode_by process_by why words
fresh-0 = refl

fresh-1 : why_words words 1 ≡ Refused 7
unfolding why_words well_formed_by head_fits lead_fits hazard_fits store_fits process_fits_by all_upto nodes_fit node_fits decode_by process_by words
fresh-1 = refl

-- neither
no_bytes : explained_in 0 [] ≡ Refused 3
unfolding explained_in why_words well_formed_by head_fits
no_bytes = refl

one_byte : explained_in 0 (1 ∷ []) ≡ Refused 3
unfolding explained_in
one_byte = refl

mark-alone : explained_in 0 mark ≡ Refused 19
unfolding explained_in mark_at trace_of questioned trailer_right
mark-alone = refl

byte-after : explained_in 0 (fresh_bytes ++ (0 ∷ [])) ≡ Refused 3
unfolding explained_in mark_at word_bytes
byte-after = refl

pub printed-so : All Printed cases
unfolding printed number_in sentence digits digit_count
printed-so =
    ap (sentence 0) (in-paper 0 ∙ told-0)
    then ap (sentence 1) (in-paper 1 ∙ told-1)
    then ap (sentence 2) (in-paper 2 ∙ told-2)
    then refl
    then refl
    then refl
    then ap (sentence 0) no_bytes
    then ap (sentence 0) one_byte
    then ap (sentence 0) mark-alone
    then ap (sentence 0) (in-fresh 0 ∙ fresh-0)
    then ap (sentence 1) (in-fresh 1 ∙ fresh-1)
    then ap (sentence 0) byte-after
    then tt
