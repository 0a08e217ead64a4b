use Rattle.std.proofs.Common.{◌≡◌, false, nat_le, refl, arith}
use Rattle.std.specs.List.{list_all}
use Rattle.std.proofs.lemmas.Bool.{lt-leb, and_right}
use Rattle.hpf_lex.specs.Bytes.{is_digit}
use Rattle.hpf_lex.specs.Lexeme.{number_of, max_number}
use Rattle.hpf_lex.proofs.Lexemes.{too_great}
use Rattle.hpf_lex.proofs.lexeme.number_of.Goals as goal

pub returns-then-number-gt-MAX_NUMBER : goal.returns-then-number-gt-MAX_NUMBER
returns-then-number-gt-MAX_NUMBER c =
    let bytes = c.args.bytes.now in
    let above = too_great c.loop-byte.number bytes c.loop-byte.byte-index max_number c.loop-byte-test.true (omega arith) in
    let fails : nat_le (number_of bytes) max_number ≡ false = lt-leb (number_of bytes) max_number (rw c.loop-byte.invariant.value at above) in
    rw (and_right (list_all is_digit bytes) (nat_le (number_of bytes) max_number) fails) refl
