use Rattle.std.proofs.Common.{◌≡◌, ◌≤◌, drop}
use Rattle.std.specs.List.{list_all}
use Rattle.hpf_lex.specs.Bytes.{is_digit}
use Rattle.hpf_lex.specs.Lexeme.{number_of, max_number, number_on}
use Rattle.hpf_lex.proofs.lexeme.number_of.Given as goal

abbrev pub invariant-loop-byte : goal.invariant-loop-byte
invariant-loop-byte l = record {
  small : l.number ≤ max_number;
  value : number_on l.number (drop l.byte-index l.bytes) ≡ number_of l.bytes;
  digits : list_all is_digit (drop l.byte-index l.bytes) ≡ list_all is_digit l.bytes;
}
