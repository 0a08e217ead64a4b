-- Names of arrays, as words of the command line give them.
use Rattle.std.proofs.Common.{◌≡◌, ℕ, nat_le, Bool, true, false, ◌&&◌, cond, List, [], ◌∷◌, length, map, Option, None, refl, sym, ap, ◌∙◌, arith}
use Rattle.std.specs.Char.{to_ascii_uppercase}
use Rattle.std.specs.List.{list_all}
use Rattle.std.proofs.lemmas.Bool.Decides.{nat_tests}
use Rattle.std.proofs.lemmas.List.{length-map}
use Rattle.hpf_lex.specs.Bytes.{is_letter, is_name_byte, upper}
use Rattle.hpf_lex.specs.Name.{is_name, max_word}
use Rattle.hpf_map.specs.Program.{PlainProgram, mapping_in}
use Rattle.hpf_own.specs.Mapping.{PlainMapping}
use Rattle.hpf_request.specs.Named.{mapping_named}

one_upper : (c : ℕ) → to_ascii_uppercase c ≡ upper c
one_upper c = grind (arith, nat_tests)

letter_upper : (c : ℕ) → is_letter (upper c) ≡ is_letter c
letter_upper c = grind (arith, nat_tests)

name_byte_upper : (c : ℕ) → is_name_byte (upper c) ≡ is_name_byte c
name_byte_upper c = grind (arith, nat_tests)

upper_alike : (cs : List ℕ) → map to_ascii_uppercase cs ≡ map upper cs
upper_alike [] = refl
upper_alike (c ∷ cs) = let one = one_upper c in let others = upper_alike cs in cc

all_upper : (cs : List ℕ) → list_all is_name_byte (map upper cs) ≡ list_all is_name_byte cs
all_upper [] = refl
all_upper (c ∷ cs) =
    ap (λ (b : Bool). b && list_all is_name_byte (map upper cs)) (name_byte_upper c) ∙ ap (λ (b : Bool). is_name_byte c && b) (all_upper cs)

-- a name in upper case is one exactly where it was one
name_upper : (cs : List ℕ) → is_name (map upper cs) ≡ is_name cs
name_upper [] = refl
name_upper (c ∷ cs) =
    ap (λ (b : Bool). b && list_all is_name_byte (map upper cs) && nat_le (length (map upper (c ∷ cs))) max_word) (letter_upper c)
    ∙ (ap (λ (b : Bool). is_letter c && b && nat_le (length (map upper (c ∷ cs))) max_word) (all_upper cs)
    ∙ ap (λ (n : ℕ). is_letter c && list_all is_name_byte cs && nat_le n max_word) (length-map (c ∷ cs) upper))

pub untrue : (b : Bool) → (b ≡ true → false ≡ true) → b ≡ false
untrue true h = sym (h refl)
untrue false h = refl

name_is : (name text bytes : List ℕ) → map to_ascii_uppercase text ≡ name → bytes ≡ text → name ≡ map upper bytes
name_is name text bytes spelled same = sym spelled ∙ (upper_alike text ∙ ap (map upper) (sym same))

pub named_word : (program : PlainProgram) (name text bytes word : List ℕ) (m : Option PlainMapping) → map to_ascii_uppercase text ≡ name → bytes ≡ text → is_name bytes ≡ true → word ≡ map upper bytes → m ≡ mapping_in program word
    → m ≡ mapping_named program name
named_word program name text bytes word m spelled same is w found =
    let spells = name_is name text bytes spelled same in
    let named : is_name name ≡ true = ap is_name spells ∙ (name_upper bytes ∙ is) in
    found ∙ (ap (mapping_in program) (w ∙ sym spells) ∙ ap (λ (b : Bool). cond b (mapping_in program name) None) (sym named))

pub no_word : (program : PlainProgram) (name text bytes : List ℕ) → map to_ascii_uppercase text ≡ name → bytes ≡ text → is_name bytes ≡ false → None ≡ mapping_named program name
no_word program name text bytes spelled same is =
    let named : is_name name ≡ false = ap is_name (name_is name text bytes spelled same) ∙ (name_upper bytes ∙ is) in
    ap (λ (b : Bool). cond b (mapping_in program name) None) (sym named)
