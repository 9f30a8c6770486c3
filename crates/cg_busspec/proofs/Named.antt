-- Nodes of a described crossbar in its module: their names, clocks and links.
use Rattle.std.proofs.Common.{◌≡◌, ℕ, true, List, ◌++◌, refl, ap, sym, ◌∙◌, codes}
use Rattle.cg_svspec.specs.Links.{link, spelled, host_link, device_link}
use Rattle.cg_desc.specs.Crossbar.{NodeIs}
use Rattle.cg_desc.specs.declared.crossbar.NodeDesc.{NodeDesc}
use Rattle.cg_desc.specs.declared.crossbar.NodeRanges.{NodeRanges}
use Rattle.cg_desc.specs.declared.crossbar.XbarDesc.{XbarDesc}
use Rattle.cg_busspec.specs.Crossbar.{Crossbar, crossbar_of, node, label}
use Rattle.cg_busspec.specs.CrossbarModule.{h_link, d_link}
use Rattle.cg_busspec.proofs.Described.{node_is}
use Rattle.cg_busspec.proofs.PartWays.{label_is}

-- a node's name, as it is described
pub name_is : (x : XbarDesc) (i : ℕ) (n : NodeDesc) → NodeIs x i n → (node x i).name ≡ n.name
name_is x i n e = ap (λ z. z.name) (node_is x i n e)

-- and its clock
pub clock_is : (x : XbarDesc) (i : ℕ) (n : NodeDesc) → NodeIs x i n → (node x i).clock ≡ n.clock
clock_is x i n e = ap (λ z. z.clock) (node_is x i n e)

-- the name as it stands in nets
pub label_of : (x : XbarDesc) (i : ℕ) (n : NodeDesc) → NodeIs x i n → label x i ≡ spelled n.name
unfolding label
label_of x i n e = label_is (node x i).name ∙ ap spelled (name_is x i n e)

-- a host's link
pub h_link_is : (x : XbarDesc) (h : ℕ) (n : NodeDesc) → NodeIs x h n → h_link x h ≡ host_link n.name
h_link_is x h n e = ap (λ z. link (codes "h_" ++ (z ++ codes "_req")) (codes "h_" ++ (z ++ codes "_rsp"))) (label_of x h n e)

-- and a device's
pub d_link_is : (x : XbarDesc) (d : ℕ) (n : NodeDesc) → NodeIs x d n → d_link x d ≡ device_link n.name
d_link_is x d n e = ap (λ z. link (codes "d_" ++ (z ++ codes "_req")) (codes "d_" ++ (z ++ codes "_rsp"))) (label_of x d n e)
