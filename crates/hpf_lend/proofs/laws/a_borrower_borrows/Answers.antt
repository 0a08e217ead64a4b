use Rattle.hpf_lend.proofs.Channels.{borrows_at, hand_is_last, nothing_in_hand}
use Rattle.hpf_lend.proofs.laws.a_borrower_borrows.Goals as goal

pub returns-clause-borrows : goal.returns-clause-borrows
returns-clause-borrows c = borrows_at

pub returns-clause-hand : goal.returns-clause-hand
returns-clause-hand c = hand_is_last

pub returns-clause-empty : goal.returns-clause-empty
returns-clause-empty c = nothing_in_hand
