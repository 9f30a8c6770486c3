-- Trees read from the front of a list of tokens: the grammar once more, as functions that go from left to right. Each gives
-- the tree and the tokens that are left, or nothing. Below the grammar they serve to show that no two trees have the same
-- tokens: the tokens of a printable tree are read back as that tree (proofs/ExpressionBack, ItemsBack, ModulesBack).
use Rattle.std.specs.Prelude.{ℕ, zero, suc, eqb, Bool, true, false, List, [], ◌∷◌, codes, length, Option, Some, None}
use Rattle.std.specs.Str.{bytes_eq}
use Rattle.cg_svspec.specs.Characters.{is_keyword}
use Rattle.cg_svspec.specs.Tokens.{Token, word, num, mark, equals}
use Rattle.cg_svspec.specs.Tokens as token
use Rattle.cg_svspec.specs.Tree.{Expression, net, cut, lit, cat, inv, any, and, or, equal, pick, expressions, Port, Parameter, Connection, Entry, wire, drive, assign, inst, Module}

-- what was read, and the tokens that are left
abbrev pub Found : Type 0 → Type 0
Found A = Option (A × List Token)

-- nothing stands here
abbrev pub nothing : {A : Type 0} → List Token → Option A
nothing ts = None

-- go on with what was read
abbrev pub onward : {A B : Type 0} → Found A → (A → List Token → Option B) → Option B
onward None f = None
onward (Some found) f = f found.0 found.1

-- go on in one of two ways
abbrev pub either : {A : Type 0} → Bool → (List Token → A) → (List Token → A) → List Token → A
either true f g ts = f ts
either false f g ts = g ts

-- the next token is this mark
abbrev pub next_is : ℕ → List Token → Bool
next_is m (mark c ∷ ts) = eqb c m
next_is m _ = false

-- go on behind this mark
abbrev pub behind : {A : Type 0} → ℕ → List Token → (List Token → Option A) → Option A
behind m (mark c ∷ ts) f = either (eqb c m) f nothing ts
behind m _ f = None

-- go on behind a number
abbrev pub with_number : {A : Type 0} → List Token → (ℕ → List Token → Option A) → Option A
with_number (num n ∷ ts) f = f n ts
with_number _ f = None

-- go on behind a name, which is no quoted word
abbrev pub with_name : {A : Type 0} → List Token → (List ℕ → List Token → Option A) → Option A
with_name (word w ∷ ts) f = either (is_keyword w) nothing (f w) ts
with_name _ f = None

-- ---- lists

-- { , item } and the mark that ends the list, behind its first item; k is above the number of these items
abbrev pub items_after : {A : Type 0} → (List Token → Found A) → ℕ → ℕ → List Token → Found (List A)
items_after read ending zero ts = None
items_after read ending (suc k) ts =
    either (next_is 44 ts)
    (λ ts. behind 44 ts (λ ts. onward (read ts) (λ x ts. onward (items_after read ending k ts) (λ xs ts. Some (x ∷ xs, ts)))))
    (λ ts. behind ending ts (λ ts. Some ([], ts)))
    ts

-- item { , item } and the mark that ends the list
abbrev pub items_at : {A : Type 0} → (List Token → Found A) → ℕ → List Token → Found (List A)
items_at read ending ts = onward (read ts) (λ x ts. onward (items_after read ending (length ts) ts) (λ xs ts. Some (x ∷ xs, ts)))

-- ---- expressions: `read` reads an expression inside

-- behind a name: [ num : num ], or nothing where the net is meant
abbrev pub net_or_cut : List ℕ → List Token → Found Expression
net_or_cut n ts =
    either (next_is 91 ts)
    (λ ts. behind 91 ts (λ ts. with_number ts (λ m ts. behind 58 ts (λ ts. with_number ts (λ l ts. behind 93 ts (λ ts. Some (cut n m l, ts)))))))
    (λ ts. Some (net n, ts))
    ts

-- behind the last operand: )
abbrev pub close : (Expression → Expression) → Expression → List Token → Found Expression
close f x ts = behind 41 ts (λ ts. Some (f x, ts))

-- behind a condition and the value where it is 1: : expr )
abbrev pub other_value : (List Token → Found Expression) → Expression → Expression → List Token → Found Expression
other_value read c x ts = behind 58 ts (λ ts. onward (read ts) (close (pick c x)))

-- behind a first operand: ( & | | | == ) expr ) or ? expr : expr )
abbrev pub operation : (List Token → Found Expression) → Expression → List Token → Found Expression
operation read x (equals ∷ ts) = onward (read ts) (close (equal x))
operation read x (mark c ∷ ts) =
    either (eqb c 38) (λ ts. onward (read ts) (close (and x)))
    (either (eqb c 124) (λ ts. onward (read ts) (close (or x)))
    (either (eqb c 63) (λ ts. onward (read ts) (other_value read x)) nothing))
    ts
operation read x _ = None

-- behind an opening parenthesis: ~ expr ) or | expr ), or a first operand and what stands behind it
abbrev pub in_parentheses : (List Token → Found Expression) → List Token → Found Expression
in_parentheses read ts =
    either (next_is 126 ts) (λ ts. behind 126 ts (λ ts. onward (read ts) (close inv)))
    (either (next_is 124 ts) (λ ts. behind 124 ts (λ ts. onward (read ts) (close any)))
    (λ ts. onward (read ts) (operation read)))
    ts

-- behind an opening brace: expr { , expr } }
abbrev pub in_braces : (List Token → Found Expression) → List Token → Found Expression
in_braces read ts = onward (items_at read 125 ts) (λ xs ts. Some (cat (expressions xs), ts))

-- an expression of at most this depth
abbrev pub expression_within : ℕ → List Token → Found Expression
expression_within zero ts = None
expression_within (suc d) (word w ∷ ts) = either (is_keyword w) nothing (net_or_cut w) ts
expression_within (suc d) (token.lit w v ∷ ts) = Some (lit w v, ts)
expression_within (suc d) (mark c ∷ ts) = either (eqb c 40) (in_parentheses (expression_within d)) (either (eqb c 123) (in_braces (expression_within d)) nothing) ts
expression_within (suc d) _ = None

-- an expression of the grammar
unfoldable pub expression_at : List Token → Found Expression
expression_at = expression_within 128

-- ---- ports, parameters and connections

-- 0 ] behind a number of at least 1, which is one less than the width
abbrev pub range_end : ℕ → List Token → Found ℕ
range_end m ts =
    with_number ts (λ l ts. behind 93 ts (λ ts. either (eqb m 0) nothing (either (eqb l 0) (λ ts. Some (suc m, ts)) nothing) ts))

-- a width: [ num : 0 ], or nothing where it is 1
abbrev pub width_at : List Token → Found ℕ
width_at ts =
    either (next_is 91 ts)
    (λ ts. behind 91 ts (λ ts. with_number ts (λ m ts. behind 58 ts (range_end m))))
    (λ ts. Some (1, ts))
    ts

-- behind a direction: [ range ] name
abbrev pub port_of : Bool → List Token → Found Port
port_of b ts = onward (width_at ts) (λ w ts. with_name ts (λ n ts. Some (record { input = b; width = w; name = n }, ts)))

-- ( input | output ) [ range ] name
abbrev pub port_at : List Token → Found Port
port_at (word w ∷ ts) = either (bytes_eq w (codes "input")) (port_of true) (either (bytes_eq w (codes "output")) (port_of false) nothing) ts
port_at _ = None

-- num | lit
abbrev pub value_at : List Token → Found Expression
value_at (num v ∷ ts) = Some (lit 0 v, ts)
value_at (token.lit w v ∷ ts) = Some (lit w v, ts)
value_at _ = None

-- . name ( value )
abbrev pub parameter_at : List Token → Found Parameter
parameter_at ts =
    behind 46 ts (λ ts. with_name ts (λ n ts. behind 40 ts (λ ts. onward (value_at ts) (λ x ts. behind 41 ts (λ ts. Some (record { name = n; value = x }, ts))))))

-- # ( param { , param } ), or nothing where there is no parameter
abbrev pub parameters_at : List Token → Found (List Parameter)
parameters_at ts = either (next_is 35 ts) (λ ts. behind 35 ts (λ ts. behind 40 ts (items_at parameter_at 41))) (λ ts. Some ([], ts)) ts

-- . name ( expr )
abbrev pub connection_at : List Token → Found Connection
connection_at ts =
    behind 46 ts (λ ts. with_name ts (λ n ts. behind 40 ts (λ ts. onward (expression_at ts) (λ x ts. behind 41 ts (λ ts. Some (record { name = n; value = x }, ts))))))

-- ---- entries and modules

-- expr ; of which f makes the entry
abbrev pub expression_end : (Expression → Entry) → List Token → Found Entry
expression_end f ts = onward (expression_at ts) (λ x ts. behind 59 ts (λ ts. Some (f x, ts)))

-- behind wire: [ range ] name [ = expr ] ;
abbrev pub wire_at : List Token → Found Entry
wire_at ts =
    onward (width_at ts) (λ w ts. with_name ts (λ n ts.
    either (next_is 61 ts) (λ ts. behind 61 ts (expression_end (drive w n))) (λ ts. behind 59 ts (λ ts. Some (wire w n, ts))) ts))

-- behind assign: name = expr ;
abbrev pub assign_at : List Token → Found Entry
assign_at ts = with_name ts (λ n ts. behind 61 ts (expression_end (assign n)))

-- behind a module's name: [ params ] name ( conn { , conn } ) ;
abbrev pub instance_at : List ℕ → List Token → Found Entry
instance_at m ts =
    onward (parameters_at ts) (λ ps ts. with_name ts (λ n ts. behind 40 ts (λ ts.
    onward (items_at connection_at 41 ts) (λ cs ts. behind 59 ts (λ ts. Some (inst m ps n cs, ts))))))

-- the entry that begins with this word
abbrev pub entry_of : List ℕ → List Token → Found Entry
entry_of w ts =
    either (bytes_eq w (codes "wire")) wire_at
    (either (bytes_eq w (codes "assign")) assign_at
    (either (is_keyword w) nothing (instance_at w)))
    ts

-- { entry } endmodule; k is above the number of entries
abbrev pub entries_at : ℕ → List Token → Found (List Entry)
entries_at zero ts = None
entries_at (suc k) (word w ∷ ts) =
    either (bytes_eq w (codes "endmodule")) (λ ts. Some ([], ts))
    (λ ts. onward (entry_of w ts) (λ x ts. onward (entries_at k ts) (λ xs ts. Some (x ∷ xs, ts))))
    ts
entries_at (suc k) _ = None

-- behind module: name ( port { , port } ) ; { entry } endmodule
abbrev pub module_of : List Token → Found Module
module_of ts =
    with_name ts (λ n ts. behind 40 ts (λ ts. onward (items_at port_at 41 ts) (λ ps ts. behind 59 ts (λ ts.
    onward (entries_at (length ts) ts) (λ xs ts. Some (record { name = n; ports = ps; entries = xs }, ts))))))

-- module name ( port { , port } ) ; { entry } endmodule
abbrev pub module_at : List Token → Found Module
module_at (word w ∷ ts) = either (bytes_eq w (codes "module")) module_of nothing ts
module_at _ = None

-- one more module before those that are read from what it leaves, or none, and then the tokens are left
abbrev pub go_on : Found Module → List Token → (List Token → List Module × List Token) → List Module × List Token
go_on None ts f = ([], ts)
go_on (Some found) ts f = (found.0 ∷ (f found.1).0, (f found.1).1)

-- the modules that stand one after another, at most k of them, and the tokens that are left
abbrev pub modules_at : ℕ → List Token → List Module × List Token
modules_at zero ts = ([], ts)
modules_at (suc k) ts = go_on (module_at ts) ts (modules_at k)

-- all modules that stand one after another, and the tokens that are left
abbrev pub read_modules : List Token → List Module × List Token
read_modules ts = modules_at (length ts) ts
