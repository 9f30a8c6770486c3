use Rattle.std.proofs.Common.{◌≡◌, ◌++◌, drop, map}
use Rattle.std.specs.List.{filter}
use Rattle.cg_desc.specs.declared.block.HostFace.{HostFace}
use Rattle.cg_hjson.specs.declared.tree.Tree.{Tree}
use Rattle.cg_blkread.specs.Interfaces.{interface_name, is_host}
use Rattle.cg_blkread.proofs.described_interfaces.describe_hosts.Given as goal

-- a host interface's description
abbrev pub host_of : Tree → HostFace
host_of h = record { name = interface_name h }

-- the hosts so far and those of the interfaces that are left are all
abbrev pub invariant-loop-interface : goal.invariant-loop-interface
invariant-loop-interface l =
    l.faces ++ map host_of (filter is_host (drop l.interface-index l.interface-items)) ≡ map host_of (filter is_host l.interface-items)
