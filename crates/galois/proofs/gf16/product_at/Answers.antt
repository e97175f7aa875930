use Rattle.std.proofs.Common.{rules}
use Rattle.galois.proofs.Computed.{products}
use Rattle.galois.proofs.gf16.product_at.Goals as goal

pub returns : goal.returns
returns c = search (rules, products)
