use Rattle.std.proofs.Common.{◌≡◌, ℕ, ◌+◌, ◌*◌, ◌^◌, ◌≤◌, length, replicate, pos}
use Rattle.access.specs.View.{participants_of, qualified_in}
use Rattle.verdict.specs.Sums.{sums_of, peak}
use Rattle.verdict.proofs.sums.add_lines.Given as goal

-- each line adds at most four times at a set, and what is left to add gives the whole
abbrev pub invariant-loop-number : goal.invariant-loop-number
invariant-loop-number l = record {
  near : l.number ≤ l.count + 1;
  long : length l.table ≡ 256;
  small : peak l.table + 2 ^ 33 ≤ 2 ^ 33 * l.number;
  whole : (k : ℕ) → l.number + k ≡ l.count + 1 →
      sums_of (participants_of l.structure) (qualified_in l.structure) k l.number l.rest l.table
      ≡ sums_of (participants_of l.structure) (qualified_in l.structure) l.count 1 l.bytes (replicate 256 (pos 0));
}
