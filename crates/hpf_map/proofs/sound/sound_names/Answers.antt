use Rattle.hpf_map.proofs.SoundLemmas.{names_of_sound}
use Rattle.hpf_map.proofs.sound.sound_names.Goals as goal

pub returns : goal.returns
returns c = names_of_sound
