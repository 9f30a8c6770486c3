-- What a flip-flop drives is the net at its `q_o`.
use Rattle.std.proofs.Common.{◌≡◌, ℕ, suc, Bool, true, false, cond, ◌⊎◌, inl, inr, Some, List, [], ◌∷◌, ◌++◌, length, refl, ap, sym, ◌∙◌, codes}
use Rattle.std.specs.Str.{bytes_eq}
use Rattle.cg_svspec.specs.Tree.{Expression, net, Parameter, Connection}
use Rattle.cg_svspec.specs.Names.{Among, Differ}
use Rattle.cg_svspec.specs.Value.{connection_at, flop_name}
use Rattle.cg_svspec.specs.WellFormed.{Net, IsOfWidth, IsBareNet, FlopFits, connection_names, ends_with, is_output, driven_nets, driven_by_connections}
use Rattle.cg_svspec.proofs.Covered.{covered}
use Rattle.cg_svspec.proofs.NamesLemmas.{name_is_itself, same_name, not_chosen, among_parts}

-- a connection's name is among the names
named : (cs : List Connection) (c : Connection) → Among c cs → Among c.name (connection_names cs)
named [] c a = absurd a
named (x ∷ cs) c (inl e) = inl (ap (λ (z : Connection). z.name) e)
named (x ∷ cs) c (inr a) = inr (named cs c a)

-- the connection of a name, where names differ
at_its_name : (cs : List Connection) (c : Connection) → Differ (connection_names cs) → Among c cs → connection_at c.name cs ≡ Some c.value
at_its_name [] c differ a = absurd a
at_its_name (x ∷ cs) c differ (inl e) = rw (e, name_is_itself x.name) refl
at_its_name (x ∷ cs) c differ (inr a) =
    not_chosen (bytes_eq x.name c.name) (Some x.value) (connection_at c.name cs) (λ e. differ.0 (rw (same_name x.name c.name e) (named cs c a))) ∙ at_its_name cs c differ.1 a

-- a connection there is has its name
is_named : (nets : List Net) (width : ℕ) (n : List ℕ) (cs : List Connection) → IsOfWidth nets width (connection_at n cs) → Among n (connection_names cs)
is_named nets width n [] has = absurd has
is_named nets width n (c ∷ cs) has = by (is_named nets width n cs) (bytes_eq c.name n) refl has where
  by : (IsOfWidth nets width (connection_at n cs) → Among n (connection_names cs)) → (b : Bool) → bytes_eq c.name n ≡ b → IsOfWidth nets width (cond b (Some c.value) (connection_at n cs))
      → Among n (c.name ∷ connection_names cs)
  by later true is has = inl (sym (same_name c.name n is))
  by later false is has = inr (later has)

-- the names of a flip-flop's connections
abbrev flop_names : List (List ℕ)
flop_names = codes "clk_i" ∷ codes "rst_ni" ∷ codes "d_i" ∷ codes "q_o" ∷ []

-- names that the test takes for two are two
apart : (m n : List ℕ) → bytes_eq m n ≡ false → m ≡ n → ⊥
apart m n other e = let same : bytes_eq m n ≡ true = rw e (name_is_itself n) in cc

flop_names_differ : Differ flop_names
flop_names_differ = (clk, (rst, (d, ((λ a. a), tt)))) where
  clk : Among (codes "clk_i") (codes "rst_ni" ∷ codes "d_i" ∷ codes "q_o" ∷ []) → ⊥
  clk (inl e) = apart (codes "clk_i") (codes "rst_ni") refl e
  clk (inr (inl e)) = apart (codes "clk_i") (codes "d_i") refl e
  clk (inr (inr (inl e))) = apart (codes "clk_i") (codes "q_o") refl e
  clk (inr (inr (inr a))) = a

  rst : Among (codes "rst_ni") (codes "d_i" ∷ codes "q_o" ∷ []) → ⊥
  rst (inl e) = apart (codes "rst_ni") (codes "d_i") refl e
  rst (inr (inl e)) = apart (codes "rst_ni") (codes "q_o") refl e
  rst (inr (inr a)) = a

  d : Among (codes "d_i") (codes "q_o" ∷ []) → ⊥
  d (inl e) = apart (codes "d_i") (codes "q_o") refl e
  d (inr a) = a

-- there is a name for each connection
length-names : (cs : List Connection) → length (connection_names cs) ≡ length cs
length-names [] = refl
length-names (c ∷ cs) = ap suc (length-names cs)

-- a flip-flop has no connection of another name
only_these : (nets : List Net) (ps : List Parameter) (cs : List Connection) → FlopFits nets ps cs → (n : List ℕ) → Among n (connection_names cs) → Among n flop_names
only_these nets ps cs fits n a = covered (connection_names cs) flop_names flop_names_differ (length-names cs ∙ fits.ports.count) all n a where
  all : (y : List ℕ) → Among y flop_names → Among y (connection_names cs)
  all y (inl e) = rw e (is_named nets 1 (codes "clk_i") cs fits.ports.each.0)
  all y (inr (inl e)) = rw e (is_named nets 1 (codes "rst_ni") cs fits.ports.each.1.0)
  all y (inr (inr (inl e))) = rw e (is_named nets fits.width (codes "d_i") cs fits.ports.each.1.1.0)
  all y (inr (inr (inr (inl e)))) = rw e (is_named nets fits.width (codes "q_o") cs fits.ports.each.1.1.1.0)
  all y (inr (inr (inr (inr a)))) = absurd a

-- the one that ends as an output is `q_o`
output_is_q : (n : List ℕ) → Among n flop_names → ends_with n (codes "_o") ≡ true → n ≡ codes "q_o"
output_is_q n (inl e) out = let no : ends_with (codes "clk_i") (codes "_o") ≡ true = rw e at out in cc
output_is_q n (inr (inl e)) out = let no : ends_with (codes "rst_ni") (codes "_o") ≡ true = rw e at out in cc
output_is_q n (inr (inr (inl e))) out = let no : ends_with (codes "d_i") (codes "_o") ≡ true = rw e at out in cc
output_is_q n (inr (inr (inr (inl e)))) out = e
output_is_q n (inr (inr (inr (inr a)))) out = absurd a

-- the connection that drives a net
record Drives (inputs : List (List ℕ)) (m n : List ℕ) (cs : List Connection) : Type 0 where
  by : Connection
  there : Among by cs
  out : is_output inputs m by ≡ true
  nets : Among n (driven_nets by.value)

drives : (inputs : List (List ℕ)) (m n : List ℕ) (cs : List Connection) → Among n (driven_by_connections inputs m cs) → Drives inputs m n cs
drives inputs m n [] a = absurd a
drives inputs m n (c ∷ cs) a = of (drives inputs m n cs) (is_output inputs m c) refl a where
  further : Drives inputs m n cs → Drives inputs m n (c ∷ cs)
  further d = record { by = d.by; there = inr d.there; out = d.out; nets = d.nets }

  of : (Among n (driven_by_connections inputs m cs) → Drives inputs m n cs) → (b : Bool) → is_output inputs m c ≡ b
      → Among n (cond b (driven_nets c.value) [] ++ driven_by_connections inputs m cs) → Drives inputs m n (c ∷ cs)
  of later false is a = further (later a)
  of later true is a = split (among_parts n (driven_nets c.value) (driven_by_connections inputs m cs) a) where
    split : Among n (driven_nets c.value) ⊎ Among n (driven_by_connections inputs m cs) → Drives inputs m n (c ∷ cs)
    split (inl b) = record { by = c; there = inl refl; out = is; nets = b }
    split (inr b) = further (later b)

-- a bare net drives itself
drives_itself : (x : Expression) (n : List ℕ) → IsBareNet (Some x) → Among n (driven_nets x) → x ≡ net n
drives_itself (net q) n bare (inl e) = ap net (sym e)
drives_itself (net q) n bare (inr a) = absurd a
drives_itself x n bare a = absurd bare

-- what a flip-flop drives is at its `q_o`
pub driven_is_q : (inputs : List (List ℕ)) (m n : List ℕ) (nets : List Net) (ps : List Parameter) (cs : List Connection) → bytes_eq m flop_name ≡ true → FlopFits nets ps cs
    → Among n (driven_by_connections inputs m cs) → connection_at (codes "q_o") cs ≡ Some (net n)
driven_is_q inputs m n nets ps cs flop fits a =
    let d = drives inputs m n cs a in
    let out : ends_with d.by.name (codes "_o") ≡ true = rw flop at d.out in
    let name : d.by.name ≡ codes "q_o" = output_is_q d.by.name (only_these nets ps cs fits d.by.name (named cs d.by d.there)) out in
    let here : connection_at (codes "q_o") cs ≡ Some d.by.value = rw name at (at_its_name cs d.by fits.ports.once d.there) in
    let bare : IsBareNet (Some d.by.value) = rw here at fits.bare in
    here ∙ ap Some (drives_itself d.by.value n bare d.nets)
