use Rattle.std.proofs.Common.{◌≡◌, ℕ, ◌*◌, ◌<◌, Bool, false, List, length, get_or, sym, subst}
use Rattle.std.proofs.lemmas.List.FromFn.{fill_by_all}
use Rattle.polymatroid.specs.Realising.{IsAccessStructure}
use Rattle.access.specs.Table.{qualified_by, contains_one, table_of}
use Rattle.access.proofs.Minimal.{table_is_structure}
use Rattle.access.proofs.structure.AccessStructure.listing.Goals as goal

whole : (sets : List ℕ) (table : List Bool) → length table ≡ 128 → ((k : ℕ) → k < 128 → get_or table k false ≡ contains_one sets (2 * k)) → table ≡ table_of sets
whole sets table sized each = fill_by_all (λ k. contains_one sets (2 * k)) table 128 false sized each

pub invariant_of-result : goal.invariant_of-result
invariant_of-result c =
    let table = whole c.args.sets.now c.table_of.result c.table_of.ensures.sized c.table_of.ensures.each in
    let laws : IsAccessStructure c.args.participants (qualified_by c.table_of.result) =
    subst (λ (t : List Bool). IsAccessStructure c.args.participants (qualified_by t)) (sym table) (table_is_structure c.args.participants c.args.sets.now c.requires) in
    record { some = c.requires.some; few = c.requires.few; upward = laws.0; empty = laws.1; everyone = laws.2 }

pub returns-clause-table : goal.returns-clause-table
returns-clause-table c = whole c.args.sets.now c.table_of.result c.table_of.ensures.sized c.table_of.ensures.each
