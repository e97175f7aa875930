use Rattle.std.proofs.Common.{rules, false}
use Rattle.polymatroid.proofs.FromFn.{called_each}
use Rattle.access.proofs.tables.table_of.Goals as goal

pub returns-clause-each : goal.returns-clause-each
returns-clause-each c = λ k l. let called = called_each _ _ (λ k y q h. search rules) _ 128 k false c.from_fn.ensures.items l in search rules
