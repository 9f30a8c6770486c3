-- The name in a file is the one under which the top has it.
use Rattle.std.proofs.Common.{◌≡◌, ◌≢◌, ℕ, Bool, true, false, List, [], codes, Option, Some, None, unwrap_or, refl, sym, subst, ap, ◌∙◌}
use Rattle.std.specs.Str.{bytes_eq}
use Rattle.std.proofs.lemmas.Bool.{false≢true}
use Rattle.std.proofs.lemmas.Slice.Eq.{bytes_eq-Decides}
use Rattle.cg_svspec.specs.Characters.{IsName}
use Rattle.cg_finding.specs.Finding.{Finding}
use Rattle.cg_finding.specs.Rules as rules
use Rattle.cg_hjson.specs.declared.tree.Tree.{Tree}
use Rattle.cg_keys.specs.Lookups.{place_at, text_at}
use Rattle.cg_keys.specs.Values.{members_of}
use Rattle.cg_finding.specs.Told.{TellsFirst}
use Rattle.cg_finding.proofs.Told.{tells_nothing, tells_one, none_broken}
use Rattle.cg_design.specs.Breaks.{IsMisnamed}
use Rattle.cg_design.specs.Inner.{found_unless, misnamed}

-- texts that do not differ are the same
same_text : (a b : List ℕ) → ¬ (a ≢ b) → a ≡ b
same_text a b alike = by (bytes_eq a b) refl where
  by : (t : Bool) → bytes_eq a b ≡ t → a ≡ b
  by true is = (bytes_eq-Decides a b).0 is
  by false is = absurd (alike (λ same. false≢true (sym is ∙ (bytes_eq-Decides a b).1 same)))

-- the string at `name`
abbrev pub name_at : Tree → Option (List ℕ)
name_at t = text_at (codes "name") (members_of t)

-- a name that is no other one is this one
pub right_name : (name : List ℕ) (t : Tree) → ((f : Finding) → ¬ IsMisnamed name t f) → IsName (unwrap_or (name_at t) []) → unwrap_or (name_at t) [] ≡ name
right_name name t none is = by (name_at t) refl where
  by : (o : Option (List ℕ)) → name_at t ≡ o → unwrap_or (name_at t) [] ≡ name
  by None e = absurd (subst (λ o. IsName (unwrap_or o [])) e is).0
  by (Some text) e =
      ap (λ o. unwrap_or o []) e
      ∙ same_text text name (λ differs. none (rules.bad_name (place_at (codes "name") (members_of t) t.at) (codes "name")) (record { text = text; written = e; differs = differs; says = refl }))

-- ---- what is told of a name

-- the rule that such a name breaks
abbrev pub misnamed_at : Tree → Finding
misnamed_at t = rules.bad_name (place_at (codes "name") (members_of t) t.at) (codes "name")

none_absent : (name : List ℕ) (t : Tree) → name_at t ≡ None → (f : Finding) → ¬ IsMisnamed name t f
none_absent name t e f is = let both : None ≡ Some is.text = sym e ∙ is.written in cc

none_same : (name text : List ℕ) (t : Tree) → name_at t ≡ Some text → bytes_eq text name ≡ true → (f : Finding) → ¬ IsMisnamed name t f
none_same name text t e same f is =
    let both : Some text ≡ Some is.text = sym e ∙ is.written in
    let one : text ≡ is.text = cc in
    is.differs (sym one ∙ (bytes_eq-Decides text name).0 same)

one_differs : (name text : List ℕ) (t : Tree) → name_at t ≡ Some text → bytes_eq text name ≡ false → TellsFirst (Some (misnamed_at t)) (IsMisnamed name t)
one_differs name text t e apart =
    tells_one (misnamed_at t)
    (record { text = text; written = e; differs = λ same. false≢true (sym apart ∙ (bytes_eq-Decides text name).1 same); says = refl })
    (λ f is. is.says)

-- the name's check tells just what it breaks
pub tells_misnamed : (name : List ℕ) (t : Tree) → TellsFirst (misnamed name t) (IsMisnamed name t)
unfolding misnamed
tells_misnamed name t = by (name_at t) refl where
  by_test : (text : List ℕ) → name_at t ≡ Some text → (b : Bool) → bytes_eq text name ≡ b → TellsFirst (found_unless (misnamed_at t) name (name_at t)) (IsMisnamed name t)
  by_test text e true is = rw (e, is) (tells_nothing (none_same name text t e is))
  by_test text e false is = rw (e, is) (one_differs name text t e is)

  by : (o : Option (List ℕ)) → name_at t ≡ o → TellsFirst (found_unless (misnamed_at t) name (name_at t)) (IsMisnamed name t)
  by None e = rw e (tells_nothing (none_absent name t e))
  by (Some text) e = by_test text e (bytes_eq text name) refl

-- where nothing is told, nothing is broken
pub rightly_named : (name : List ℕ) (t : Tree) → misnamed name t ≡ None → (f : Finding) → ¬ IsMisnamed name t f
rightly_named name t none f is = none_broken (subst (λ o. TellsFirst o (IsMisnamed name t)) none (tells_misnamed name t)) f is
