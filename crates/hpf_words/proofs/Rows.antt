-- Rows of command lines, by the definitions alone.
use Rattle.std.proofs.Common.{List, [], ◌∷◌, codes, Some, None, refl}
use Rattle.clap.proofs.OnLiterals.{clap_on_literals}
use Rattle.clap.specs.Words.{Text}
use Rattle.hpf_words.specs.Command.{AreTaken, found_in}
use Rattle.hpf_words.specs.declared.asked.Asked.TheVariants.{Show, Local, Run, Trial}
use Rattle.hpf_words.specs.Words.{AsksFor}

-- the words of a line behind the program's name
line : List Text → List Text
line words = codes "hpfturn" ∷ words

shows : AsksFor (line (codes "show" ∷ codes "M" ∷ [])) Show (codes "M")
unfolding line AreTaken found_in clap_on_literals
shows = record {
  taken = refl;
  found = record {
    action_is = refl;
    map_is = refl;
    met = record { name_is = refl; processor_is = refl; stage_is = refl; frames_is = refl; seed_is = refl; workers_is = refl };
  };
}

-- workers in front, with a plus and zeros
runs : AsksFor (line (codes "--workers" ∷ codes "+064" ∷ codes "run" ∷ codes "M" ∷ [])) (Run 64) (codes "M")
unfolding line AreTaken found_in clap_on_literals
runs = record {
  taken = refl;
  found = record {
    action_is = refl;
    map_is = refl;
    met = (Some 64, record { name_is = refl; processor_is = refl; stage_is = refl; frames_is = refl; seed_is = refl; workers_is = refl }, refl);
  };
}

-- a name in small letters, and a map named by two hyphens
holds : AsksFor (line (codes "local" ∷ codes "--proc=63" ∷ codes "--" ∷ codes "--" ∷ codes "a" ∷ [])) (Local (codes "A") 63) (codes "--")
unfolding line AreTaken found_in clap_on_literals
holds = record {
  taken = refl;
  found = record {
    action_is = refl;
    map_is = refl;
    met = record { name_is = refl; processor_is = refl; stage_is = refl; frames_is = refl; seed_is = refl; workers_is = refl };
  };
}

-- a seed below zero that is zero, and no workers
tries : AsksFor (line (codes "trial" ∷ codes "M" ∷ codes "--frames" ∷ codes "4294967295" ∷ codes "--seed=-0" ∷ [])) (Trial 4294967295 0 1) (codes "M")
unfolding line AreTaken found_in clap_on_literals
tries = record {
  taken = refl;
  found = record {
    action_is = refl;
    map_is = refl;
    met = (Some 0, None, record { name_is = refl; processor_is = refl; stage_is = refl; frames_is = refl; seed_is = refl; workers_is = refl }, refl, refl);
  };
}

too_many : ¬ AreTaken (line (codes "run" ∷ codes "M" ∷ codes "--workers" ∷ codes "65" ∷ []))
unfolding line AreTaken clap_on_literals
too_many taken = absurd cc

shortened : ¬ AreTaken (line (codes "run" ∷ codes "M" ∷ codes "--work" ∷ codes "2" ∷ []))
unfolding line AreTaken clap_on_literals
shortened taken = absurd cc

twice : ¬ AreTaken (line (codes "run" ∷ codes "M" ∷ codes "--workers=2" ∷ codes "--workers=2" ∷ []))
unfolding line AreTaken clap_on_literals
twice taken = absurd cc

help : ¬ AreTaken (line (codes "show" ∷ codes "M" ∷ codes "--help" ∷ []))
unfolding line AreTaken clap_on_literals
help taken = absurd cc

no_map : ¬ AreTaken (line (codes "show" ∷ []))
unfolding line AreTaken clap_on_literals
no_map taken = absurd cc

four : ¬ AreTaken (line (codes "owners" ∷ codes "M" ∷ codes "A" ∷ codes "B" ∷ []))
unfolding line AreTaken clap_on_literals
four taken = absurd cc
