-- How a word is kept.
use Rattle.std.specs.Prelude.{ℕ, ◌≡◌, ◌≤◌, ◌-◌, List, ◌++◌, length, map, take, drop, replicate}
use Rattle.std.proofs.Common.{arith, ap, ◌∙◌, take-append-drop}
use Rattle.std.proofs.lemmas.List.{length-take-le}
use Rattle.hpf_lex.specs.Bytes.{upper}
use Rattle.hpf_lex.specs.declared.word.Word.TheInside.{Inside}

-- the bytes of a word, without the places behind them: a name's, with letters in upper case
abbrev pub word_bytes : Inside → List ℕ
word_bytes w = take w.len w.bytes

-- at most 31 bytes, with letters in upper case, and nothing but zeros behind them
pub record IsPadded (w : Inside) : Type 0 where
  pub size : length w.bytes ≡ 31
  pub fits : w.len ≤ 31
  pub upper_case : map upper (word_bytes w) ≡ word_bytes w
  pub zeros : drop w.len w.bytes ≡ replicate (31 - w.len) 0

-- a word that has these bytes
abbrev pub padded : List ℕ → Inside
padded cs = record { bytes = cs ++ replicate (31 - length cs) 0; len = length cs }

-- a word is what its bytes make
pub padded-word_bytes : (w : Inside) → IsPadded w → padded (word_bytes w) ≡ w
padded-word_bytes w h =
    let len_is : length (take w.len w.bytes) ≡ w.len = length-take-le w.len w.bytes (omega arith) in
    let bytes_are : take w.len w.bytes ++ replicate (31 - length (take w.len w.bytes)) 0 ≡ w.bytes =
    rw (len_is, ← h.zeros) (take-append-drop w.len w.bytes) in
    let make : List ℕ → ℕ → Inside = λ cs n. record { bytes = cs; len = n } in
    ap (λ (cs : List ℕ). make cs (length (take w.len w.bytes))) bytes_are ∙ ap (make w.bytes) len_is
