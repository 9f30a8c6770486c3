use Rattle.std.proofs.Common.{ℕ, ◌≡◌, Bool, true, false, List, ◌||◌, cond, not, refl, ap, ◌∙◌}
use Rattle.std.proofs.lemmas.Map.Text.{hash_set_updates_text}
use Rattle.std.specs.HashSet.{contains_text}
use Rattle.std.specs.String.{string_bytes}
use Rattle.std.specs.Str.{bytes_eq, str_to_ascii_lowercase}
use Rattle.cg_expand.specs.Parts.Names.{has}
use Rattle.cg_expand.proofs.names.Names.add.Goals as goal

-- `||` by a choice
or_cond : (a b : Bool) → cond a true b ≡ (a || b)
or_cond true b = refl
or_cond false b = refl

pub returns-clause-new : goal.returns-clause-new
unfolding has
returns-clause-new c =
    c.in_ok-is_new.ensures.added
    ∙ ap (λ (bytes : List ℕ). not (contains_text c.args.self.now.lower bytes)) c.in_ok-lower.ensures.ok

pub returns-clause-known : goal.returns-clause-known
unfolding has
returns-clause-known c = λ other.
    hash_set_updates_text (string_bytes c.in_ok-lower.lower) c.args.self.now.lower c.insert.new.self true c.in_ok-is_new.ensures.updates (str_to_ascii_lowercase other)
    ∙ or_cond (bytes_eq (string_bytes c.in_ok-lower.lower) (str_to_ascii_lowercase other)) (contains_text c.args.self.now.lower (str_to_ascii_lowercase other))
    ∙ ap (λ (bytes : List ℕ). bytes_eq bytes (str_to_ascii_lowercase other) || contains_text c.args.self.now.lower (str_to_ascii_lowercase other)) c.in_ok-lower.ensures.ok
