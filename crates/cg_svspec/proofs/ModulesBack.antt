-- The tokens of entries and modules are read back, so that a text stands for one list of modules.
use Rattle.std.proofs.Common.{◌≡◌, ℕ, zero, suc, ◌≤◌, ◌<◌, false, List, [], ◌∷◌, ◌++◌, length, refl, ap, sym, ◌∙◌, arith, append_assoc, length-append, Some, codes}
use Rattle.std.specs.Str.{bytes_eq}
use Rattle.cg_svspec.specs.Characters.{is_keyword}
use Rattle.cg_svspec.specs.Tokens.{Token, word, mark}
use Rattle.cg_svspec.specs.Tree.{Entry, wire, drive, assign, inst, Module}
use Rattle.cg_svspec.specs.Grammar.{expression_tokens, connections_tokens, entry_tokens, entries_tokens, module_tokens, modules_tokens}
use Rattle.cg_svspec.specs.Printable.{AllOf, IsPrintableEntry, IsPrintable}
use Rattle.cg_svspec.specs.Stands.{TextStandsForOneList}
use Rattle.cg_svspec.specs.Parse.{onward, instance_at, entries_at, module_at, modules_at, read_modules}
use Rattle.cg_svspec.proofs.Runs.{or_false_left, or_false_right}
use Rattle.cg_svspec.proofs.OneReading.{same_tokens}
use Rattle.cg_svspec.proofs.ExpressionBack.{whole_expression_back}
use Rattle.cg_svspec.proofs.ItemsBack.{width_back, ports_back, parameters_back, connections_back}

-- a name is none of the words with which an entry or the end of all entries begins
record IsNoOpening (n : List ℕ) : Type 0 where
  end : bytes_eq n (codes "endmodule") ≡ false
  wire : bytes_eq n (codes "wire") ≡ false
  assign : bytes_eq n (codes "assign") ≡ false

-- a name is no quoted word, and so none of these
no_opening : (n : List ℕ) → is_keyword n ≡ false → IsNoOpening n
no_opening n h =
    let e = or_false_right (bytes_eq n (codes "module")) _ h in
    let i = or_false_right (bytes_eq n (codes "endmodule")) _ e in
    let o = or_false_right (bytes_eq n (codes "input")) _ i in
    let w = or_false_right (bytes_eq n (codes "output")) _ o in
    record {
      end = or_false_left (bytes_eq n (codes "endmodule")) _ e;
      wire = or_false_left (bytes_eq n (codes "wire")) _ w;
      assign = or_false_right (bytes_eq n (codes "wire")) _ w;
    }

-- an entry that begins with a name is an instance
named_entry : (n : List ℕ) → is_keyword n ≡ false → (k : ℕ) (ts : List Token) → entries_at (suc k) (word n ∷ ts) ≡ onward (instance_at n ts) (λ x ts. onward (entries_at k ts) (λ xs ts. Some (x ∷ xs, ts)))
named_entry n h k ts = let no = no_opening n h in rw (h, no.end, no.wire, no.assign) refl

-- one more entry before others
entry_back : (x : Entry) → IsPrintableEntry x → (k : ℕ) (ts : List Token) → entries_at (suc k) (entry_tokens x ++ ts) ≡ onward (entries_at k ts) (λ xs ts. Some (x ∷ xs, ts))
entry_back (wire w n) is k ts = simp append_assoc (rw (width_back w is.0 (word n ∷ mark 59 ∷ ts) refl, is.1.1) refl)
entry_back (drive w n x) is k ts =
    simp append_assoc
    (rw (width_back w is.0 (word n ∷ mark 61 ∷ (expression_tokens x ++ mark 59 ∷ ts)) refl, is.1.1, whole_expression_back x is.2 (mark 59 ∷ ts) refl) refl)
entry_back (assign n x) is k ts = simp append_assoc (rw (is.0.1, whole_expression_back x is.1 (mark 59 ∷ ts) refl) refl)
entry_back (inst m ps n cs) is k ts =
    simp append_assoc
    (named_entry m is.0.1 k _
    ∙ rw (
      parameters_back ps is.1 (word n ∷ mark 40 ∷ (connections_tokens cs ++ mark 41 ∷ mark 59 ∷ ts)) refl,
      is.2.1,
      connections_back cs is.3 is.4 (mark 59 ∷ ts),
    ) refl)

-- all entries, and the word that ends them
entries_back : (xs : List Entry) → AllOf IsPrintableEntry xs → (k : ℕ) → length xs < k → (ts : List Token) → entries_at k (entries_tokens xs ++ word (codes "endmodule") ∷ ts) ≡ Some (xs, ts)
entries_back xs is zero l ts = absurd (omega arith)
entries_back [] is (suc k) l ts = refl
entries_back (x ∷ xs) is (suc k) l ts =
    simp append_assoc
    (entry_back x is.0 k (entries_tokens xs ++ word (codes "endmodule") ∷ ts) ∙ rw (entries_back xs is.1 k (omega arith) ts) refl)

-- an entry has a token
some_token : (x : Entry) → 0 < length (entry_tokens x)
some_token (wire w n) = omega arith
some_token (drive w n x) = omega arith
some_token (assign n x) = omega arith
some_token (inst m ps n cs) = omega arith

-- each entry has a token
entries_below : (xs : List Entry) → length xs ≤ length (entries_tokens xs)
entries_below [] = omega arith
entries_below (x ∷ xs) = omega (arith, some_token x, entries_below xs, length-append (entry_tokens x) (entries_tokens xs))

-- a module
pub module_back : (m : Module) → IsPrintable m → (ts : List Token) → module_at (module_tokens m ++ ts) ≡ Some (m, ts)
module_back m is ts =
    let size : length m.entries < length (entries_tokens m.entries ++ word (codes "endmodule") ∷ ts) = omega (arith, entries_below m.entries, length-append (entries_tokens m.entries) (word (codes "endmodule") ∷ ts)) in
    simp append_assoc
    (rw (
      is.name.1,
      ports_back m.ports is.some_port is.ports (mark 59 ∷ (entries_tokens m.entries ++ word (codes "endmodule") ∷ ts)),
      entries_back m.entries is.entries (length (entries_tokens m.entries ++ word (codes "endmodule") ∷ ts)) size ts,
    ) refl)

-- modules, read with at least their number
modules_back : (ms : List Module) → AllOf IsPrintable ms → (k : ℕ) → length ms ≤ k → modules_at k (modules_tokens ms) ≡ (ms, [])
modules_back [] is zero l = refl
modules_back [] is (suc k) l = refl
modules_back (m ∷ ms) is zero l = absurd (omega arith)
modules_back (m ∷ ms) is (suc k) l = rw (module_back m is.0 (modules_tokens ms), modules_back ms is.1 k (omega arith)) refl

-- each module has a token
modules_below : (ms : List Module) → length ms ≤ length (modules_tokens ms)
modules_below [] = omega arith
modules_below (m ∷ ms) = omega (arith, modules_below ms, length-append (module_tokens m) (modules_tokens ms))

-- the tokens of modules are read back as those modules, and nothing is left
pub read_modules_back : (ms : List Module) → AllOf IsPrintable ms → read_modules (modules_tokens ms) ≡ (ms, [])
read_modules_back ms is = modules_back ms is (length (modules_tokens ms)) (modules_below ms)

-- no two lists of modules have the same tokens
pub modules_equal : (ms ns : List Module) → AllOf IsPrintable ms → AllOf IsPrintable ns → modules_tokens ms ≡ modules_tokens ns → ms ≡ ns
modules_equal ms ns a b e = ap (λ z. z.0) (sym (read_modules_back ms a) ∙ ap read_modules e ∙ read_modules_back ns b)

-- a text stands for at most one list of modules
pub stands_for_one_list : TextStandsForOneList
stands_for_one_list text ms ns a b = modules_equal ms ns a.trees b.trees (same_tokens text (modules_tokens ms) (modules_tokens ns) a.reads b.reads)
