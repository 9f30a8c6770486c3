-- Links and parts as values of the code.
use Rattle.cg_svspec.specs.Links as spec
use Rattle.cg_svspec.specs.Tree.{Entry}
use Rattle.cg_desc.specs.declared.crossbar.XbarDesc.{XbarDesc}
use Rattle.cg_busspec.specs.CrossbarModule.{host_fifo_entry, host_split_entry, device_join_entry, device_fifo_entry}
use Rattle.cg_nodes.specs.declared.parts.Part.{Part}
use Rattle.cg_nodes.specs.declared.parts.Part.TheVariants.{HostFifo, Split, Join, DeviceFifo}
use Rattle.cg_svxbar.specs.declared.links.Link.{Link}

-- the link for which a value stands
abbrev pub link_of : Link → spec.Link
link_of l = spec.link l.request l.response

-- the instance of a part
abbrev pub part_entry : XbarDesc → Part → Entry
part_entry x (HostFifo h) = host_fifo_entry x h
part_entry x (Split h) = host_split_entry x h
part_entry x (Join d) = device_join_entry x d
part_entry x (DeviceFifo d) = device_fifo_entry x d
