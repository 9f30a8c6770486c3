use Rattle.std.proofs.Common.{append_assoc}
use Rattle.cg_svreg.proofs.ports.add_access_ports.Goals as goal

pub returns : goal.returns
returns c =
    rw (
      c.in_ok-output-2.ensures.ok,
      c.in_ok-output.ensures.ok,
      c.in_ok-input-7.ensures.ok,
      c.in_ok-input-6.ensures.ok,
      c.in_ok-input-5.ensures.ok,
      c.in_ok-input-4.ensures.ok,
      c.in_ok-input-3.ensures.ok,
      c.in_ok-input-2.ensures.ok,
      c.in_ok-input.ensures.ok,
    )
    (simp append_assoc)
