-- Steps of tables of values.
use Rattle.std.proofs.Common.{◌≡◌, Bool, true, false, cond, Option, Some, refl, ap, ◌∙◌}
use Rattle.std.specs.Option.{option_map_or}

items_of_put : {A B : Type 0} (f : A → B) (d : B) (same : Bool) (v : A) (old : Option A)
    → option_map_or f (cond same (Some v) old) d ≡ cond same (f v) (option_map_or f old d)
items_of_put f d true v old = refl
items_of_put f d false v old = refl

-- what is put in is there from then on
pub put_in : {A B : Type 0} (f : A → B) (d : B) (same : Bool) (v : A) (old : Option A) {new : Option A} → new ≡ cond same (Some v) old
    → option_map_or f new d ≡ cond same (f v) (option_map_or f old d)
put_in f d same v old e = ap (λ o. option_map_or f o d) e ∙ items_of_put f d same v old
