-- The way of a request inside one crossbar, wherever the crossbar stands: alone, or as an instance of another module.
use Rattle.std.specs.Prelude.{◌≡◌, ℕ, false, List, ◌∷◌, Option, Some, None}
use Rattle.cg_svspec.specs.Bits.{Bits}
use Rattle.cg_svspec.specs.Links.{Link, to, leaves, stuck, inside}
use Rattle.cg_svspec.specs.Names.{is_among}
use Rattle.cg_svspec.specs.Tree.{Module}

-- From link l of the crossbar, where the nets in `held` hold the request, it leaves by a link, or is stuck.
pub data Passes (m : Module) (request : Bits) : List (List ℕ) → Link → Option Link → Type 0 where
  -- the request is at an output port
  out : {held : List (List ℕ)} {l : Link} → inside m request (l.request ∷ held) l ≡ leaves → Passes m request held l (Some l)
  -- it meets nothing, or its response does not lead back
  ends_here : {held : List (List ℕ)} {l : Link} → inside m request (l.request ∷ held) l ≡ stuck → Passes m request held l None
  -- it goes over a FIFO or a socket to a link at which it was not
  over : {held : List (List ℕ)} {a b : Link} {o : Option Link} → inside m request (a.request ∷ held) a ≡ to b → is_among (a.request ∷ held) b.request ≡ false
      → Passes m request (a.request ∷ held) b o → Passes m request held a o
