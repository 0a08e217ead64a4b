-- Numbers in decimal are numerals that stand for them.
use Rattle.std.proofs.Common.{◌≡◌, ℕ, ◌≤◌, ◌<◌, ◌^◌, true, arith, rules}
use Rattle.std.specs.List.{list_all}
use Rattle.std.specs.Fmt.{decimal}
use Rattle.std.proofs.lemmas.Str.Parse.{numerals_by_fold, IsNumeralModel, IsDigitsTest, FoldsDigits}
use Rattle.std.proofs.lemmas.Fmt.{digits_decimal, digits_value-decimal, decimal_nonempty}
use Rattle.hpf_lex.specs.Bytes.{is_digit}
use Rattle.hpf_lex.specs.Lexeme.{number_on, number_of, max_number}
use Rattle.hpf_lex.specs.Spelling.{IsNumeral}

tells : IsDigitsTest (λ digits. list_all is_digit digits ≡ true)
tells = search rules

folds : FoldsDigits number_on
folds = search rules

own : IsNumeralModel (λ digits. list_all is_digit digits ≡ true) (number_on 0)
own = numerals_by_fold (λ digits. list_all is_digit digits ≡ true) tells number_on folds

pub stands_for : (n : ℕ) → n ≤ max_number → IsNumeral (decimal n) × (number_of (decimal n) ≡ n)
stands_for n small =
    let fits : n < 2 ^ 64 = omega arith in
    let value : number_of (decimal n) ≡ n = digits_value-decimal own n fits in
    (record { some = decimal_nonempty n fits; digits = digits_decimal own n fits; small = omega arith }, value)
