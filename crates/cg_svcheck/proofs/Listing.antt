-- What outputs of instances drive, as lists of names that grow.
use Rattle.std.proofs.Common.{◌≡◌, ℕ, suc, ◌+◌, ◌<◌, Bool, true, false, cond, List, [], ◌∷◌, ◌++◌, map, drop, drop-cons, add-one, get_or, length, Some, None, Bor, Vec, Global, ap, sym, refl, ◌∙◌}
use Rattle.std.proofs.lemmas.List.{append_assoc, append-nil, map-append}
use Rattle.cg_svspec.specs.Tree.{Expression, net, cut, lit, cat, inv, any, and, or, equal, pick, Expressions, expressions, none, more}
use Rattle.cg_svspec.specs.WellFormed.{bare_parts, driven_by_connections, driven_nets, is_output}
use Rattle.cg_sv.specs.Views.{expression_of, expression_level, connection_of}
use Rattle.cg_sv.specs.declared.tree.Conn.{Conn}
use Rattle.cg_sv.specs.declared.tree.Expr as expr
use Rattle.cg_sv.specs.declared.tree.Expr.{Expr}
use Rattle.cg_sv.specs.declared.tree.Expr.TheOpen as level
use Rattle.cg_sv.specs.declared.tree.Expr.TheVariants as form
use Rattle.cg_sv.proofs.Views.{of-Cat, of-Net}
use Rattle.cg_svcheck.specs.Counting.{all_bare}
use Rattle.cg_svcheck.specs.Lookups.{bare_names}

-- the names of borrowed texts
abbrev pub names_of : List (Bor (List ℕ)) → List (List ℕ)
names_of = map (λ s. s.now)

-- a name more
pub name_more : (old new : List (Bor (List ℕ))) (x : Bor (List ℕ)) → new ≡ old ++ x ∷ [] → names_of new ≡ names_of old ++ x.now ∷ []
name_more old new x is = ap names_of is ∙ map-append (λ (s : Bor (List ℕ)). s.now) old (x ∷ [])

-- ---- what an output drives

-- the nets of a concatenation of bare nets, and of another none
bare_are : (xs : Expressions) → (all_bare xs ≡ true → bare_parts xs ≡ Some (bare_names xs)) × (all_bare xs ≡ false → bare_parts xs ≡ None)
bare_are none = (λ e. refl, λ e. cc)
bare_are (more (net m) xs) = let later = bare_are xs in (λ e. rw (later.0 e) refl, λ e. rw (later.1 e) refl)
bare_are (more (cut n m l) xs) = (λ e. cc, λ e. refl)
bare_are (more (lit w v) xs) = (λ e. cc, λ e. refl)
bare_are (more (cat ys) xs) = (λ e. cc, λ e. refl)
bare_are (more (inv y) xs) = (λ e. cc, λ e. refl)
bare_are (more (any y) xs) = (λ e. cc, λ e. refl)
bare_are (more (and y z) xs) = (λ e. cc, λ e. refl)
bare_are (more (or y z) xs) = (λ e. cc, λ e. refl)
bare_are (more (equal y z) xs) = (λ e. cc, λ e. refl)
bare_are (more (pick c y z) xs) = (λ e. cc, λ e. refl)

pub driven_by_net : (x : Expr) (n : List ℕ) → x ≡ form.Net n → driven_nets (expression_of x) ≡ n ∷ []
driven_by_net x n is = ap (λ (y : Expr). driven_nets (expression_of y)) is ∙ ap driven_nets (of-Net n)

by_parts : (xs : Expressions) (b : Bool) → all_bare xs ≡ b → driven_nets (cat xs) ≡ cond b (bare_names xs) []
by_parts xs true is = rw ((bare_are xs).0 is) refl
by_parts xs false is = rw ((bare_are xs).1 is) refl

parts_are : (x : Expr) (ps : List Expr) (b : Bool) → x ≡ form.Cat ps → b ≡ all_bare (expressions (map expression_of ps)) → driven_nets (expression_of x) ≡ cond b (bare_names (expressions (map expression_of ps))) []
parts_are x ps b is bare =
    ap (λ (y : Expr). driven_nets (expression_of y)) is ∙ ap driven_nets (of-Cat ps) ∙ by_parts (expressions (map expression_of ps)) b (sym bare)

-- a concatenation that was looked at twice
pub driven_by_parts : (x : Expr) (ps one two : List Expr) (b : Bool) → x ≡ form.Cat ps → one ≡ ps → two ≡ ps → b ≡ all_bare (expressions (map expression_of one)) → b ≡ true
    → bare_names (expressions (map expression_of two)) ≡ driven_nets (expression_of x)
driven_by_parts x ps one two b is first second bare yes_is =
    ap (λ (l : List Expr). bare_names (expressions (map expression_of l))) second
    ∙ sym (parts_are x ps true is (sym yes_is ∙ bare ∙ ap (λ (l : List Expr). all_bare (expressions (map expression_of l))) first))

pub mixed_parts : (x : Expr) (ps one : List Expr) (b : Bool) → x ≡ form.Cat ps → one ≡ ps → b ≡ all_bare (expressions (map expression_of one)) → b ≡ false → driven_nets (expression_of x) ≡ []
mixed_parts x ps one b is first bare no_is = parts_are x ps false is (sym no_is ∙ bare ∙ ap (λ (l : List Expr). all_bare (expressions (map expression_of l))) first)

-- the view goes down one level
one_level : (x : level.Expr-F Expr) → expression_of (expr.roll-Expr x) ≡ expression_level (expr.map-Expr Expr Expression expression_of x)
unfolding expression_of
one_level x = expr.fold-roll-Expr Expression expression_level x

-- what is no net and no concatenation drives nothing, at one level
nothing_level : (y : level.Expr-F Expr) → ((n : List ℕ) → y ≡ level.Net n → ⊥) → ((xs : List Expr) → y ≡ level.Cat xs → ⊥)
    → driven_nets (expression_level (expr.map-Expr Expr Expression expression_of y)) ≡ []
nothing_level (level.Net n) bare parts = absurd (bare n refl)
nothing_level (level.Cut n m l) bare parts = refl
nothing_level (level.Lit w v) bare parts = refl
nothing_level (level.Cat xs) bare parts = absurd (parts xs refl)
nothing_level (level.Not x) bare parts = refl
nothing_level (level.Any x) bare parts = refl
nothing_level (level.And x y) bare parts = refl
nothing_level (level.Or x y) bare parts = refl
nothing_level (level.Equal x y) bare parts = refl
nothing_level (level.Pick c x y) bare parts = refl

pub driven_by_nothing : (x : Expr) → ((n : List ℕ) → x ≡ form.Net n → ⊥) → ((xs : List Expr) → x ≡ form.Cat xs → ⊥) → driven_nets (expression_of x) ≡ []
driven_by_nothing x bare parts =
    let y = expr.out-Expr x in
    let here : expression_of x ≡ expression_level (expr.map-Expr Expr Expression expression_of y) = ap expression_of (sym (expr.roll-out-Expr x)) ∙ one_level y in
    ap driven_nets here
    ∙ nothing_level y (λ n is. bare n (sym (expr.roll-out-Expr x) ∙ ap expr.roll-Expr is ∙ form.rolls-Net n))
    (λ xs is. parts xs (sym (expr.roll-out-Expr x) ∙ ap expr.roll-Expr is ∙ form.rolls-Cat xs))

-- no name more
pub none_more : (names others : List (List ℕ)) → others ≡ [] → names ≡ names ++ others
none_more names others is = sym (ap (λ ns. names ++ ns) is ∙ append-nil names)

-- ---- what a connection drives

-- the connections from here on, the first of them apart
connections_here : (conns : List Conn) (i : ℕ) (x : Conn) → i < length conns → x ≡ get_or conns i x → map connection_of (drop i conns) ≡ connection_of x ∷ map connection_of (drop (i + 1) conns)
connections_here conns i x less is = ap (map connection_of) (drop-cons conns i x less) ∙ rw add-one (ap (λ (y : Conn). connection_of y ∷ map connection_of (drop (suc i) conns)) (sym is))

one_connection : (ins : List (List ℕ)) (m : List ℕ) (conns : List Conn) (i : ℕ) (x : Conn) (old new all : List (List ℕ)) (b : Bool) → i < length conns → x ≡ get_or conns i x
    → b ≡ is_output ins m (connection_of x) → new ≡ old ++ cond b (driven_nets (connection_of x).value) []
    → old ++ driven_by_connections ins m (map connection_of (drop i conns)) ≡ all → new ++ driven_by_connections ins m (map connection_of (drop (i + 1) conns)) ≡ all
one_connection ins m conns i x old new all b less at is grown before =
    let rest = driven_by_connections ins m (map connection_of (drop (i + 1) conns)) in
    ap (λ ns. ns ++ rest) grown
    ∙ append_assoc old (cond b (driven_nets (connection_of x).value) []) rest
    ∙ ap (λ t. old ++ (cond t (driven_nets (connection_of x).value) [] ++ rest)) is
    ∙ sym (ap (λ cs. old ++ driven_by_connections ins m cs) (connections_here conns i x less at))
    ∙ before

pub connections_more : (ins : List (List ℕ)) (m : List ℕ) (conns : List Conn) (i : ℕ) (x : Conn) (old new grown : Vec (Bor (List ℕ)) Global) (all : List (List ℕ)) (b : Bool)
    → i < length conns → x ≡ get_or conns i x → b ≡ is_output ins m (connection_of x) → b ≡ true → new ≡ grown → names_of grown.items ≡ names_of old.items ++ driven_nets (connection_of x).value
    → names_of old.items ++ driven_by_connections ins m (map connection_of (drop i conns)) ≡ all
    → names_of new.items ++ driven_by_connections ins m (map connection_of (drop (i + 1) conns)) ≡ all
connections_more ins m conns i x old new grown all b less at is yes_is same added before =
    one_connection ins m conns i x (names_of old.items) (names_of new.items) all true less at (sym yes_is ∙ is) (ap (λ (v : Vec (Bor (List ℕ)) Global). names_of v.items) same ∙ added) before

pub connections_less : (ins : List (List ℕ)) (m : List ℕ) (conns : List Conn) (i : ℕ) (x : Conn) (old new : Vec (Bor (List ℕ)) Global) (all : List (List ℕ)) (b : Bool)
    → i < length conns → x ≡ get_or conns i x → b ≡ is_output ins m (connection_of x) → b ≡ false → new ≡ old
    → names_of old.items ++ driven_by_connections ins m (map connection_of (drop i conns)) ≡ all
    → names_of new.items ++ driven_by_connections ins m (map connection_of (drop (i + 1) conns)) ≡ all
connections_less ins m conns i x old new all b less at is no_is same before =
    one_connection ins m conns i x (names_of old.items) (names_of new.items) all false less at (sym no_is ∙ is)
    (none_more (names_of new.items) [] refl ∙ ap (λ (v : Vec (Bor (List ℕ)) Global). names_of v.items ++ []) same) before
