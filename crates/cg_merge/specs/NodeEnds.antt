-- What each node of each crossbar of a top stands for, in their order.
use Rattle.std.specs.Prelude.{◌≡◌, ℕ, List, length, slice_get, Some}
use Rattle.cg_desc.specs.Ends.{StandsFor}
use Rattle.cg_desc.specs.Top.{Design}
use Rattle.cg_desc.specs.declared.crossbar.XbarDesc.{XbarDesc}
use Rattle.cg_desc.specs.declared.top.XbarEnds.{XbarEnds}

-- one list has an item for each of another's, each with its number fit for it
pub record AreFor {X Y : Type 0} (R : ℕ → X → Y → Type 0) (xs : List X) (ys : List Y) : Type 0 where
  pub count : length ys ≡ length xs
  pub each : (i : ℕ) (x : X) (y : Y) → slice_get xs i ≡ Some x → slice_get ys i ≡ Some y → R i x y

-- what the nodes of crossbar x stand for
abbrev pub AreEndsOf : Design → ℕ → XbarDesc → XbarEnds → Type 0
AreEndsOf d x xbar ends = AreFor (λ n node e. StandsFor d x node e) xbar.nodes ends.ends

-- what the nodes of each crossbar stand for
abbrev pub AreAllEnds : Design → List XbarEnds → Type 0
AreAllEnds d ends = AreFor (AreEndsOf d) d.xbars ends
