-- A step of kind k on sound words: refused by the answer to its questions, or let in by it and done. Assumes nothing.
use Prim.Native.Nat.{ℕ, ◌<◌}
use mathlib.Core.Bool.{true}
use mathlib.Core.List.{List}
use mathlib.Core.Path.{◌≡◌, refl, sym, ap, ◌∙◌}
use borrow.Author.Tests.{ne_eqb}
use Rattle.std.specs.Prelude.{Result, Ok, Err}
use Rattle.refusals.specs.declared.Refusal.{Refusal}
use Rattle.refusals.specs.Numbers.{number, value_in}
use Rattle.refusals.proofs.Numbers.{some-number}
use Rattle.model.specs.State.{Step}
use Rattle.model.specs.Kinds.{Kind, kind_of, means, row_of, ProcessId, HazardId, NodeId}
use Rattle.model.specs.Questions.{refusal_of}
use Rattle.model.specs.Machine.{act, step}
use Rattle.model.proofs.Walk.{Asked, asked}
use Rattle.model.proofs.WellFormed.{keep-act}
use Rattle.layout.specs.Encode.{encode, decode, decode_by, params_in}
use Rattle.layout.specs.Sound.{Sound}
use Rattle.layout.proofs.Sound.{sound-at}
use Rattle.domain.specs.Effects.{Does}
use Rattle.steps.specs.Stepped.{SteppedTo}

-- what the exit of a `?` says: the answer refuses by r
abbrev pub Refused : Result ℕ Refusal → Refusal → Type 0
Refused x r = (y : Refusal) × (x ≡ Err y) × (y ≡ r)

module _ (k : Kind) (ws : List ℕ) (s : Step) where
  pub turned-away : Sound ws → kind_of s.kind ≡ k → {r : Refusal} → number r ≡ refusal_of k (decode ws) s → {x : Result ℕ Refusal}
      → Refused x r → SteppedTo ws s x ws
  unfolding step
  turned-away sound is {r} e x =
      let by : number x.0 ≡ refusal_of k (decode ws) s = ap number x.2 ∙ e in
      rw (x.1, is, ← by, ne_eqb (number x.0) 0 (some-number x.0))
      (record { refusal = refl; value = refl; words = sound.whole; sound = sound })

  module _ (e : 0 ≡ refusal_of k (decode ws) s) where
    pub facts : Asked k (decode ws) s
    facts = asked k (decode ws) s (sym e)

    pub process-in : means (row_of k).process ProcessId ≡ true → s.process < (params_in ws).processes
    unfolding decode_by
    process-in = facts.process

    pub hazard-in : means (row_of k).hazard HazardId ≡ true → s.hazard < (params_in ws).hazards
    unfolding decode_by
    hazard-in = facts.hazard

    pub node-in : means (row_of k).node NodeId ≡ true → s.node < (params_in ws).nodes
    unfolding decode_by
    node-in = facts.node

    pub let-in : Sound ws → kind_of s.kind ≡ k → {ws' : List ℕ} {v : ℕ} → Does (act k (decode ws) s) ws' v → SteppedTo ws s (Ok v) ws'
    unfolding step
    let-in sound is d =
        rw (is, ← e)
        (record { refusal = refl; value = d.1; words = d.0; sound = sound-at d.0 (keep-act k (decode ws) s sound.domain facts) })

    -- and the other way: a step that is let in leaves, and answers for its value, what its kind does
    pub acted : kind_of s.kind ≡ k → {r : Result ℕ Refusal} {ws' : List ℕ} → SteppedTo ws s r ws' → Does (act k (decode ws) s) ws' (value_in r)
    unfolding step
    acted is t =
        let after : encode (step (decode ws) s).after ≡ encode (act k (decode ws) s).after = rw (is, ← e) refl in
        let value : (step (decode ws) s).value ≡ (act k (decode ws) s).value = rw (is, ← e) refl in
        (t.words ∙ after, t.value ∙ value)
