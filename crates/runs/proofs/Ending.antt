-- The three ways in which a call that lists ends: refused for its arguments, refused for want of room, and listed.
use mathlib.Core.Path.{◌≡◌, refl, sym, ap, subst, ◌∙◌}
use mathlib.Core.Bool.{Bool, cond}
use mathlib.Core.List.{List}
use Prim.Native.Nat.{ℕ, zero, suc, ◌*◌, ◌<◌, ◌≤◌}
use native.Mathlib.Omega.{arith}
use borrow.Author.Tests.{le-leb, lt-leb}
use lib.IntN.{ℤ}
use lib.ListN.{length}
use Rattle.std.specs.Prelude.{Ok, Err}
use Rattle.hexes.specs.Answers.{Told, Answer, accepted, refused}
use Rattle.hexes.specs.Refusals.{number_of, run_too_short}
use Rattle.hexes.specs.declared.refusal.Refusal.{Refusal}
use Rattle.hexes.specs.declared.Tile.{Tile}
use Rattle.runs.specs.Laid.{Laid}
use Rattle.runs.specs.Runs.{listing, listed, Lists}
use Rattle.hexes.proofs.Tells.{refusal_number}

-- Each law takes what the caller knows of the refusal number of the arguments: that it is that of a refusal, or 0.
module _ (number : ℕ) (tiles : List Tile) (entry : List ℤ) where
  pub refused_for : {e : Refusal} → number_of e ≡ number → Lists number tiles entry (Err e) entry
  unfolding listing listed
  refused_for {e} is = go number is
    where
      go : (m : ℕ) → number_of e ≡ m → Lists m tiles entry (Err e) entry
      go zero z = absurd (omega (arith, refusal_number e))
      go (suc m) z = record { told = ap (refused 0) z; holds = refl }

  short_told : number ≡ 0 → length entry < 2 * length tiles → listing number tiles (length entry) ≡ refused 0 run_too_short
  unfolding listing
  short_told z h = rw z (ap (λ (b : Bool). cond b (accepted (length tiles)) (refused 0 run_too_short)) (lt-leb (2 * length tiles) (length entry) h))

  pub short_of_room : number ≡ 0 → length entry < 2 * length tiles → Lists number tiles entry (Err Refusal.RunTooShort) entry
  unfolding listed
  short_of_room z h =
      let t = short_told z h in
      record { told = sym t; holds = sym (ap (λ (told : Told ℕ). listed told.number tiles entry) t) }

  listed_told : number ≡ 0 → 2 * length tiles ≤ length entry → listing number tiles (length entry) ≡ accepted (length tiles)
  unfolding listing
  listed_told z h = rw z (ap (λ (b : Bool). cond b (accepted (length tiles)) (refused 0 run_too_short)) (le-leb (2 * length tiles) (length entry) h))

  pub listed_all : {count next : ℕ} {exit : List ℤ} → number ≡ 0 → count ≡ length tiles → 2 * length tiles ≤ length entry → Laid entry 0 tiles next exit → Lists number tiles entry (Ok count) exit
  unfolding listed
  listed_all z c h laid =
      let t = listed_told z h in
      record { told = ap accepted c ∙ sym t; holds = laid.holds ∙ sym (ap (λ (told : Told ℕ). listed told.number tiles entry) t) }

-- What is promised of a list is promised of an equal one; where the arguments are refused the list does not matter.
pub lists_same : (number : ℕ) (l t : List Tile) {entry exit : List ℤ} {r : Answer ℕ} → (number ≡ 0 → l ≡ t) → Lists number l entry r exit → Lists number t entry r exit
unfolding listing listed
lists_same zero l t {entry} {exit} {r} e h = subst (λ (u : List Tile). Lists 0 u entry r exit) (e refl) h
lists_same (suc number) l t e h = record { told = h.told; holds = h.holds }
