-- Each public call's promise leaves one outcome: two outcomes, answer and table, that meet it are equal. (That efforts are at most 65535 is known of a lent table of unsigned 16-bit numbers.)
use mathlib.Core.Path.{◌≡◌, refl, sym, ap, ◌∙◌}
use mathlib.Core.List.{List}
use Prim.Native.Nat.{ℕ, zero, suc, ◌<◌}
use native.Mathlib.Omega.{arith}
use lib.ListN.{length}
use Rattle.std.specs.Prelude.{Result, Ok, Err}
use Rattle.hexes.specs.Answers.{Answer, number_told}
use Rattle.hexes.specs.Refusals.{number_of, not_right}
use Rattle.hexes.specs.declared.Tile.{Tile}
use Rattle.hexes.specs.declared.refusal.Refusal.{Refusal}
use Rattle.hexes.proofs.Tells.{refusal_number, refusal_one}
use Rattle.storage.specs.Hexmod.{index}
use Rattle.storage.specs.declared.Index.{Index}
use Rattle.storage.specs.declared.Map.{Map}
use Rattle.storage.proofs.Maps.{fine}
use Rattle.terrain.specs.Judging.{call_refusal}
use Rattle.terrain.proofs.Judging.{judged}
use Rattle.terrain.proofs.Totals.{Efforts, one_totals}
use Rattle.terrain.proofs.Verdicts.{one_verdict}
use Rattle.field_of_movement.specs.Calls.{Ranges, Checks, fault_number, fault_index, verdict_number, verdict_index, fault_text}
use Rattle.field_of_movement.specs.declared.fault.Fault.{Fault}

pub riding_range_unique : (map : Map) (efforts : List ℕ) (start : Tile) (budget : ℕ) (before after after' : List ℕ) (n n' : ℕ) → Efforts efforts → Ranges map efforts start budget before after n → Ranges map efforts start budget before after' n' → (n ≡ n') × (after ≡ after')
riding_range_unique map efforts start budget before after after' n n' short p q = go (call_refusal map start (length efforts) (length before)) refl
  where
    go : (m : ℕ) → call_refusal map start (length efforts) (length before) ≡ m → (n ≡ n') × (after ≡ after')
    go zero e =
        let k = (judged map start (length efforts) (length before) e).0 in
        let x = p.accepted e in
        let y = q.accepted e in
        (x.0 ∙ sym y.0, one_totals map (fine map k.map_fine).small efforts short start k.on budget after after' x.1 y.1)
    go (suc m) e =
        let h : 0 < call_refusal map start (length efforts) (length before) = omega arith in
        let x = p.refused h in
        let y = q.refused h in
        (x.0 ∙ sym y.0, x.1 ∙ sym y.1)

pub check_totals_unique : (map : Map) (efforts : List ℕ) (start : Tile) (budget : ℕ) (totals : List ℕ) (n i n' i' : ℕ) → Checks map efforts start budget totals n i → Checks map efforts start budget totals n' i' → (n ≡ n') × (i ≡ i')
check_totals_unique map efforts start budget totals n i n' i' p q = go (call_refusal map start (length efforts) (length totals)) refl
  where
    go : (m : ℕ) → call_refusal map start (length efforts) (length totals) ≡ m → (n ≡ n') × (i ≡ i')
    go zero e = one_verdict map efforts start budget totals n i n' i' (p.accepted e) (q.accepted e)
    go (suc m) e =
        let h : 0 < call_refusal map start (length efforts) (length totals) = omega arith in
        let x = p.refused h in
        let y = q.refused h in
        (x.0 ∙ sym y.0, x.1 ∙ sym y.1)

pub fault_number_unique : (f : Fault) {r s : ℕ} → r ≡ fault_number f → s ≡ fault_number f → r ≡ s
fault_number_unique f p q = p ∙ sym q

pub fault_text_unique : (f : Fault) {r s : List ℕ} → r ≡ fault_text f → s ≡ fault_text f → r ≡ s
fault_text_unique f p q = p ∙ sym q

pub fault_of_unique : (refusal : Refusal) {f g : Fault} → f ≡ Fault.Refused refusal → g ≡ Fault.Refused refusal → f ≡ g
fault_of_unique refusal p q = p ∙ sym q

-- The numbers leave one answer of the code.
pub answer_one : (r s : Answer (Unit {0})) → number_told r ≡ number_told s → r ≡ s
answer_one (Ok u) (Ok v) e = refl
answer_one (Ok u) (Err f) e = absurd (omega (arith, refusal_number f))
answer_one (Err f) (Ok u) e = absurd (omega (arith, refusal_number f))
answer_one (Err f) (Err g) e = ap (λ (h : Refusal). Err h) (refusal_one f g e)

not_nine : (f : Refusal) → number_of f ≡ not_right → ⊥
not_nine Refusal.BeyondLimit e = absurd (omega arith)
not_nine Refusal.TooLarge e = absurd (omega arith)
not_nine Refusal.UnknownNumber e = absurd (omega arith)
not_nine Refusal.OddPair e = absurd (omega arith)
not_nine Refusal.NotOfMap e = absurd (omega arith)
not_nine Refusal.WrongLength e = absurd (omega arith)
not_nine Refusal.RunTooShort e = absurd (omega arith)
not_nine Refusal.NoOpenPath e = absurd (omega arith)

index_is : (i j : Index) → i.0 ≡ j.0 → i ≡ j
index_is i j e = ap index e

pub fault_one : (f g : Fault) → fault_number f ≡ fault_number g → fault_index f ≡ fault_index g → f ≡ g
fault_one (Fault.Refused f) (Fault.Refused g) e i = ap Fault.Refused (refusal_one f g e)
fault_one (Fault.Refused f) (Fault.NotRight j) e i = absurd (not_nine f e)
fault_one (Fault.NotRight j) (Fault.Refused g) e i = absurd (not_nine g (sym e))
fault_one (Fault.NotRight j) (Fault.NotRight k) e i = ap Fault.NotRight (index_is j k i)

pub verdict_one : (r s : Result (Unit {0}) Fault) → verdict_number r ≡ verdict_number s → verdict_index r ≡ verdict_index s → r ≡ s
verdict_one (Ok u) (Ok v) e i = refl
verdict_one (Ok u) (Err (Fault.Refused f)) e i = absurd (omega (arith, refusal_number f))
verdict_one (Ok u) (Err (Fault.NotRight j)) e i = absurd (omega arith)
verdict_one (Err (Fault.Refused f)) (Ok u) e i = absurd (omega (arith, refusal_number f))
verdict_one (Err (Fault.NotRight j)) (Ok u) e i = absurd (omega arith)
verdict_one (Err f) (Err g) e i = ap (λ (h : Fault). Err h) (fault_one f g e i)
