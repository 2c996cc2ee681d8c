use Rattle.std.proofs.Common.{rules, tests, refl}
use Rattle.table.specs.View.{policy_of}
use Rattle.table.proofs.Chains.{all_between}
use Rattle.links.specs.Returning.{owner_fits}
use Rattle.links.proofs.Numbered.{processes_told}
use Rattle.links.proofs.are_processes_paired.Goals as goal

pub returns : goal.returns
returns c = processes_told c.args.mem.now (all_between (owner_fits (policy_of c.args.mem.now)) (λ i. i) _ _ c.all.result 1 256 255 refl refl c.all.ensures.ran (λ x b q k. search (rules, tests)))
