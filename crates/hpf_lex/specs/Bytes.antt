-- What a byte may be in a mapping text (Fortran 90, character set).
use Rattle.std.specs.Prelude.{ℕ, ◌-◌, Bool, ◌&&◌, ◌||◌, nat_le, ◌==◌, if◌then◌else◌}

-- a blank or a tab
unfoldable pub is_blank : ℕ → Bool
is_blank c = (c == 32) || (c == 9)

-- `A` to `Z`, or `a` to `z`
abbrev pub is_letter : ℕ → Bool
is_letter c = (nat_le 65 c && nat_le c 90) || (nat_le 97 c && nat_le c 122)

-- `0` to `9`
abbrev pub is_digit : ℕ → Bool
is_digit c = nat_le 48 c && nat_le c 57

-- what may stand in a name behind its first letter
abbrev pub is_name_byte : ℕ → Bool
is_name_byte c = is_letter c || is_digit c || (c == 95)

-- a letter as upper case, and any other byte as it is
abbrev pub upper : ℕ → ℕ
upper c = if nat_le 97 c && nat_le c 122 then c - 32 else c
