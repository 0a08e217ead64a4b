-- Names and their bytes.
use Rattle.std.proofs.Common.{◌≡◌, ℕ, ◌+◌, ◌-◌, ◌<◌, ◌≤◌, Bool, true, false, ◌&&◌, nat_le, List, [], ◌∷◌, map, length, get_or, set, take, drop, replicate, refl, sym, ap, subst, ◌∙◌, arith}
use Rattle.std.specs.List.{list_all}
use Rattle.std.proofs.lemmas.List.{drop-set-lt, take_more, take_more_set, map_push, drop-drop, drop-replicate}
use Rattle.std.proofs.lemmas.Bool.{leb-true}
use Rattle.std.proofs.lemmas.Bool.Decides.{nat_tests}
use Rattle.hpf_lex.specs.Bytes.{is_letter, is_name_byte, upper}
use Rattle.hpf_lex.specs.Name.{is_name}

-- a name by its first byte and the others
pub is_name_parts : (bytes : List ℕ) → 0 < length bytes → is_name bytes ≡ (is_letter (get_or bytes 0 0) && list_all is_name_byte (drop 1 bytes) && nat_le (length bytes) 31)
is_name_parts [] h = absurd (omega arith)
is_name_parts (c ∷ cs) h = refl

and_right : (a b : Bool) → (a && b) ≡ true → b ≡ true
and_right true b h = h
and_right false b h = absurd cc

-- letters stay in upper case
upper-upper : (c : ℕ) → upper (upper c) ≡ upper c
upper-upper c = grind (arith, nat_tests)

pub map-upper-upper : (bytes : List ℕ) → map upper (map upper bytes) ≡ map upper bytes
map-upper-upper [] = refl
map-upper-upper (c ∷ cs) = let one = upper-upper c in let others = map-upper-upper cs in cc

-- what was written is in upper case
pub upper_written : (word bytes : List ℕ) (i : ℕ) → i ≡ length bytes → take i word ≡ map upper (take i bytes) → map upper (take (length bytes) word) ≡ take (length bytes) word
upper_written word bytes i e written = subst (λ (n : ℕ). map upper (take n word) ≡ take n word) e (ap (map upper) written ∙ map-upper-upper (take i bytes) ∙ sym written)

-- one more byte of a word
pub one_more : (word bytes : List ℕ) (i c : ℕ) → length word ≡ 31 → length bytes ≤ 31 → i < length bytes → c ≡ upper (get_or bytes i 0) → take i word ≡ map upper (take i bytes)
    → take (i + 1) (set word i c) ≡ map upper (take (i + 1) bytes)
one_more word bytes i c size few lt e so_far =
    let a = take_more_set word i c (omega arith) in
    let b = map_push upper (take i bytes) (get_or bytes i 0) in
    let d = take_more bytes i 0 lt in
    cc

pub zeros_left : (word : List ℕ) (i c : ℕ) → i < 31 → drop i word ≡ replicate (31 - i) 0 → drop (i + 1) (set word i c) ≡ replicate (31 - (i + 1)) 0
zeros_left word i c lt h =
    let e : (31 - i) - 1 ≡ 31 - (i + 1) = omega arith in
    let a : drop (i + 1) (set word i c) ≡ drop (i + 1) word = drop-set-lt (i + 1) word i c (omega arith) in
    let b : drop 1 (drop i word) ≡ drop (i + 1) word = drop-drop 1 i word in
    let d : drop 1 (replicate (31 - i) 0) ≡ replicate ((31 - i) - 1) 0 = drop-replicate {X = ℕ} 1 (31 - i) 0 in
    a ∙ sym b ∙ ap (λ (t : List ℕ). drop 1 t) h ∙ d ∙ ap (λ (n : ℕ). replicate n 0) e

-- a name has at most 31 bytes
pub is_name-length : (bytes : List ℕ) → is_name bytes ≡ true → length bytes ≤ 31
is_name-length [] h = omega arith
is_name-length (c ∷ cs) h = leb-true _ _ (and_right _ _ h)
