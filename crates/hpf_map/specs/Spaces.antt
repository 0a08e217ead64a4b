-- The shapes of names that directives use, where they are free.
use Rattle.std.specs.Prelude.{ℕ, List, length, Bool, true, ◌&&◌, ◌==◌, Option, Some, None, option_and_then, if◌then◌else◌}
use Rattle.hpf_num.specs.declared.run.Run.{Run}
use Rattle.hpf_map.specs.declared.name.Meaning.{Meaning}
use Rattle.hpf_map.specs.declared.name.Meaning.TheVariants as meaning
use Rattle.hpf_map.specs.declared.name.Name.{Name}
use Rattle.hpf_map.specs.declared.name.Span.{Span}
use Rattle.hpf_map.specs.declared.role.Role.{Role}
use Rattle.hpf_map.specs.Known.{known}
use Rattle.hpf_map.specs.Uses.{suits}

-- bounds as a run of integers
abbrev pub run_of : Span → Run
run_of s = record { low = s.low; high = s.high }

-- the shape that a meaning has, where that is free
abbrev pub meaning_shape : Meaning → Option (List Span)
meaning_shape meaning.Scalar = None
meaning_shape (meaning.Shaped space dimensions) = dimensions.shape
meaning_shape (meaning.Constant value) = None
meaning_shape (meaning.List values) = None

-- a name that may be used so
abbrev pub fit : Role → Name → Option Name
fit role name = if name.free && suits role name.meaning then Some name else None

module _ (names : List Name) where
  -- what a word is that is used so, where neither the use nor the name has a breach
  abbrev pub used_as : Role → List ℕ → Option Name
  used_as role word = option_and_then (fit role) (known names word)

  -- its shape, where that is free too
  abbrev pub shape_of : Role → List ℕ → Option (List Span)
  shape_of role word = option_and_then (λ n. meaning_shape n.meaning) (used_as role word)

-- as many written ones as there are dimensions; missing ones stand for all
abbrev pub counts_agree : {A : Type 0} → Option (List A) → List Span → Bool
counts_agree None spans = true
counts_agree (Some written) spans = length written == length spans
