use Rattle.std.proofs.Common.{◌≤◌, ◌<◌, length, refl, sym, ap, ◌∙◌, arith}
use Rattle.std.proofs.lemmas.Option.{slice_get_read}
use Rattle.cg_desc.specs.declared.block.IoDesc.{IoDesc}
use Rattle.cg_pinmux.specs.Signals.{PortIs}
use Rattle.cg_pinmux.proofs.Naming.{no_bit, no_port_bit, one_bit}
use Rattle.cg_pinmux.proofs.Reading.{none_plain}
use Rattle.cg_pinmux.proofs.names.bit_in.Goals as goal

pub returns-in_default : goal.returns-in_default
returns-in_default c = no_port_bit c.args.ports.now c.requires.valid c.args.inst c.args.name.now c.args.bit (none_plain _ c.requires.plain) c.requires.few (sym c.port_named.ensures.place ∙ c.in_default.is)

pub returns-then-bit-ports : goal.returns-then-bit-ports
returns-then-bit-ports c =
    let there : PortIs c.args.ports.now c.in-Some.port c.index-ports-port.result = slice_get_read c.args.ports.now (length c.args.ports.now) c.in-Some.port c.index-ports-port.result refl c.in-Some.ensures.within c.index-ports-port.is in
    let wide = ap (λ (port : IoDesc). port.width) c.index-ports-port.is in
    let past : c.index-ports-port.result.width ≤ c.args.bit = omega (arith, wide, c.if-bit-ports.true) in
    no_bit c.args.ports.now c.requires.valid c.args.inst c.in-Some.port c.args.name.now c.args.bit c.index-ports-port.result (none_plain _ c.requires.plain) c.requires.few
    (sym c.port_named.ensures.place ∙ c.in-Some.is) there past

pub returns : goal.returns
returns c =
    let there : PortIs c.args.ports.now c.in-Some.port c.index-ports-port.result = slice_get_read c.args.ports.now (length c.args.ports.now) c.in-Some.port c.index-ports-port.result refl c.in-Some.ensures.within c.index-ports-port.is in
    let wide = ap (λ (port : IoDesc). port.width) c.index-ports-port.is in
    let within : c.args.bit < c.index-ports-port.result.width = omega (arith, wide, c.if-bit-ports.false) in
    one_bit c.args.ports.now c.requires.valid c.args.inst c.in-Some.port c.args.name.now c.args.bit c.index-ports-port.result (none_plain _ c.requires.plain) c.requires.few
    (sym c.port_named.ensures.place ∙ c.in-Some.is) there within
