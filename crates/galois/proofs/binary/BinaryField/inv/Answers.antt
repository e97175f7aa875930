use Rattle.galois.proofs.Computed.{order_8}
use Rattle.galois.proofs.binary.BinaryField.inv.Goals as goal

pub inverse_at-requires-else-self-eq4-clause-right : goal.inverse_at-requires-else-self-eq4-clause-right
inverse_at-requires-else-self-eq4-clause-right c =
    let e = order_8 c.args.self.now.q c.args.self.now.listed c.if-self-eq4.false in simp e
