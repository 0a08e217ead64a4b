use Rattle.hpf_lend.proofs.Channels.{lends_at, homes_left, all_came_home}
use Rattle.hpf_lend.proofs.Histories.{count_is}
use Rattle.hpf_lend.proofs.laws.a_lender_lends.Goals as goal

pub returns-clause-lends : goal.returns-clause-lends
returns-clause-lends c = lends_at

pub returns-clause-home : goal.returns-clause-home
returns-clause-home c = homes_left

pub returns-clause-all_home : goal.returns-clause-all_home
returns-clause-all_home c = all_came_home

pub returns-clause-counts : goal.returns-clause-counts
returns-clause-counts c = count_is
