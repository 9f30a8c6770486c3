use Rattle.cg_clkrst.proofs.sources.source_of.Goals as goal

pub returns-then-port : goal.returns-then-port
returns-then-port c source = rw c.if-port.true (rw c.as_slice.ensures at c.known_for.ensures source)

pub returns-else-port : goal.returns-else-port
returns-else-port c source = rw c.if-port.false (rw c.as_slice-else-port.ensures at c.known_for-else-port.ensures source)
