-- A number that is read digit by digit, and where it has no value.
use Rattle.std.specs.Prelude.{cond, ℕ, ◌+◌, ◌*◌, ltb, leb, ℤ, pos, neg_ℤ, Option, None, Some}
use Rattle.text.specs.declared.digits.Digits.{Digits}

-- One more digit, where the magnitude stays below 2^64.
unfoldable pub more_of : Digits → ℕ → Option Digits
more_of d digit = cond (ltb (d.magnitude * 10 + digit) 18446744073709551616) (Some (record { negative = d.negative; magnitude = d.magnitude * 10 + digit })) None

-- The number, where it is from -2^63 to 2^63 - 1.
unfoldable pub value_of : Digits → Option ℤ
value_of d =
    cond d.negative
    (cond (leb d.magnitude 9223372036854775808) (Some (neg_ℤ (pos d.magnitude))) None)
    (cond (ltb d.magnitude 9223372036854775808) (Some (pos d.magnitude)) None)
