-- Names of a mapping text.
use Rattle.std.specs.Prelude.{ℕ, Bool, false, ◌&&◌, nat_le, List, [], ◌∷◌, length}
use Rattle.std.specs.List.{list_all}
use Rattle.hpf_lex.specs.Bytes.{is_letter, is_name_byte}

-- the greatest length of a name (this project defines it; Fortran 90 has 31 too)
abbrev pub max_word : ℕ
max_word = 31

-- a name: a letter, then letters, digits and `_`, at most 31 bytes (Fortran 90, names)
abbrev pub is_name : List ℕ → Bool
is_name [] = false
is_name (c ∷ cs) = is_letter c && list_all is_name_byte cs && nat_le (length (c ∷ cs)) max_word
