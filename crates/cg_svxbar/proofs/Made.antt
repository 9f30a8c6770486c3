-- Instances that were made are the parts of the crossbar's module.
use Rattle.std.proofs.Common.{◌≡◌, ℕ, List, [], ◌∷◌, ◌++◌, length, map, ap, ◌∙◌, codes}
use Rattle.cg_svspec.specs.Tree.{net, Parameter, Connection, Entry, inst}
use Rattle.cg_svspec.specs.WellFormed.{fifo_name, split_name, join_name}
use Rattle.cg_busspec.specs.CrossbarModule.{requests, responses, bundle, clock_net, connection, number_parameter, fifo_instance, split_instance, join_instance}
use Rattle.cg_sv.specs.Views.{parameter_of}
use Rattle.cg_sv.specs.declared.tree.Param.{Param}
use Rattle.cg_svxbar.specs.Viewed.{link_of}
use Rattle.cg_svxbar.specs.declared.links.Link.{Link}

-- a FIFO
pub fifo_made : (old new : List Entry) (name near far : List ℕ) (a b : Link) (ps : List Param) (cs : List Connection) → ps ≡ []
    → cs ≡ connection (codes "clk_h_i") (net (clock_net near)) ∷ connection (codes "clk_d_i") (net (clock_net far)) ∷ connection (codes "req_i") (net a.request)
    ∷ connection (codes "rsp_o") (net a.response) ∷ connection (codes "req_o") (net b.request) ∷ connection (codes "rsp_i") (net b.response) ∷ []
    → new ≡ old ++ inst fifo_name (map parameter_of ps) name cs ∷ [] → new ≡ old ++ fifo_instance name near far (link_of a) (link_of b) ∷ []
unfolding fifo_instance
fifo_made old new name near far a b ps cs none is e = e ∙ (ap (λ z. old ++ inst fifo_name (map parameter_of z) name cs ∷ []) none ∙ ap (λ z. old ++ inst fifo_name [] name z ∷ []) is)

-- a 1-to-N socket
pub split_made : (old new : List Entry) (name clock select : List ℕ) (a : Link) (bs : List Link) (ps : List Parameter) (cs : List Connection)
    → ps ≡ number_parameter (codes "N") (length (map link_of bs)) ∷ []
    → cs ≡ connection (codes "clk_i") (net (clock_net clock)) ∷ connection (codes "sel_i") (net select) ∷ connection (codes "req_i") (net a.request)
    ∷ connection (codes "rsp_o") (net a.response) ∷ connection (codes "req_o") (bundle (requests (map link_of bs))) ∷ connection (codes "rsp_i") (bundle (responses (map link_of bs))) ∷ []
    → new ≡ old ++ inst split_name ps name cs ∷ [] → new ≡ old ++ split_instance name clock select (link_of a) (map link_of bs) ∷ []
unfolding split_instance
split_made old new name clock select a bs ps cs one is e =
    e ∙ (ap (λ z. old ++ inst split_name z name cs ∷ []) one ∙ ap (λ z. old ++ inst split_name (number_parameter (codes "N") (length (map link_of bs)) ∷ []) name z ∷ []) is)

-- an M-to-1 socket
pub join_made : (old new : List Entry) (name clock : List ℕ) (ls : List Link) (b : Link) (ps : List Parameter) (cs : List Connection)
    → ps ≡ number_parameter (codes "M") (length (map link_of ls)) ∷ []
    → cs ≡ connection (codes "clk_i") (net (clock_net clock)) ∷ connection (codes "req_i") (bundle (requests (map link_of ls)))
    ∷ connection (codes "rsp_o") (bundle (responses (map link_of ls))) ∷ connection (codes "req_o") (net b.request) ∷ connection (codes "rsp_i") (net b.response) ∷ []
    → new ≡ old ++ inst join_name ps name cs ∷ [] → new ≡ old ++ join_instance name clock (map link_of ls) (link_of b) ∷ []
unfolding join_instance
join_made old new name clock ls b ps cs one is e =
    e ∙ (ap (λ z. old ++ inst join_name z name cs ∷ []) one ∙ ap (λ z. old ++ inst join_name (number_parameter (codes "M") (length (map link_of ls)) ∷ []) name z ∷ []) is)
