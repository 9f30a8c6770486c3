-- The grammar of the subset, by cases on the tree: the tokens of each tree.
use Rattle.std.specs.Prelude.{ℕ, ◌-◌, eqb, cond, List, [], ◌∷◌, ◌++◌, codes}
use Rattle.cg_svspec.specs.Tokens.{Token, word, num, mark, equals}
use Rattle.cg_svspec.specs.Tokens as token
use Rattle.cg_svspec.specs.Tree.{Expression, net, cut, lit, cat, inv, any, and, or, equal, pick, Expressions, none, more, Port, Parameter, Connection, Entry, wire, drive, assign, inst, Module}

abbrev mutual
  -- name | name [ num : num ] | lit | { expr , .. } | ( ~ expr ) | ( | expr ) | ( expr & expr ) | ..
  pub expression_tokens : Expression → List Token
  expression_tokens (net n) = word n ∷ []
  expression_tokens (cut n m l) = word n ∷ mark 91 ∷ num m ∷ mark 58 ∷ num l ∷ mark 93 ∷ []
  expression_tokens (lit w v) = token.lit w v ∷ []
  expression_tokens (cat xs) = mark 123 ∷ (parts_tokens xs ++ mark 125 ∷ [])
  expression_tokens (inv x) = mark 40 ∷ mark 126 ∷ (expression_tokens x ++ mark 41 ∷ [])
  expression_tokens (any x) = mark 40 ∷ mark 124 ∷ (expression_tokens x ++ mark 41 ∷ [])
  expression_tokens (and x y) = mark 40 ∷ (expression_tokens x ++ (mark 38 ∷ (expression_tokens y ++ mark 41 ∷ [])))
  expression_tokens (or x y) = mark 40 ∷ (expression_tokens x ++ (mark 124 ∷ (expression_tokens y ++ mark 41 ∷ [])))
  expression_tokens (equal x y) = mark 40 ∷ (expression_tokens x ++ (equals ∷ (expression_tokens y ++ mark 41 ∷ [])))
  expression_tokens (pick c x y) = mark 40 ∷ (expression_tokens c ++ (mark 63 ∷ (expression_tokens x ++ (mark 58 ∷ (expression_tokens y ++ mark 41 ∷ [])))))

  -- expr { , expr }
  pub parts_tokens : Expressions → List Token
  parts_tokens none = []
  parts_tokens (more x xs) = expression_tokens x ++ rest_tokens xs

  -- { , expr }
  pub rest_tokens : Expressions → List Token
  rest_tokens none = []
  rest_tokens (more x xs) = mark 44 ∷ (expression_tokens x ++ rest_tokens xs)

-- [ num : 0 ], absent where the width is 1
unfoldable pub range_tokens : ℕ → List Token
range_tokens w = cond (eqb w 1) [] (mark 91 ∷ num (w - 1) ∷ mark 58 ∷ num 0 ∷ mark 93 ∷ [])

-- ( input | output ) [ range ] name
unfoldable pub port_tokens : Port → List Token
port_tokens p = word (cond p.input (codes "input") (codes "output")) ∷ (range_tokens p.width ++ word p.name ∷ [])

-- { , port }
abbrev pub ports_after : List Port → List Token
ports_after [] = []
ports_after (p ∷ ps) = mark 44 ∷ (port_tokens p ++ ports_after ps)

abbrev pub ports_tokens : List Port → List Token
ports_tokens [] = []
ports_tokens (p ∷ ps) = port_tokens p ++ ports_after ps

-- a parameter's value: num | lit
abbrev pub value_tokens : Expression → List Token
value_tokens (lit w v) = cond (eqb w 0) (num v) (token.lit w v) ∷ []
value_tokens x = expression_tokens x

-- . name ( value )
unfoldable pub parameter_tokens : Parameter → List Token
parameter_tokens p = mark 46 ∷ word p.name ∷ mark 40 ∷ (value_tokens p.value ++ mark 41 ∷ [])

abbrev pub parameters_after : List Parameter → List Token
parameters_after [] = mark 41 ∷ []
parameters_after (p ∷ ps) = mark 44 ∷ (parameter_tokens p ++ parameters_after ps)

-- # ( param { , param } ), absent where there is none
abbrev pub parameters_tokens : List Parameter → List Token
parameters_tokens [] = []
parameters_tokens (p ∷ ps) = mark 35 ∷ mark 40 ∷ (parameter_tokens p ++ parameters_after ps)

-- . name ( expr )
unfoldable pub connection_tokens : Connection → List Token
connection_tokens c = mark 46 ∷ word c.name ∷ mark 40 ∷ (expression_tokens c.value ++ mark 41 ∷ [])

abbrev pub connections_after : List Connection → List Token
connections_after [] = []
connections_after (c ∷ cs) = mark 44 ∷ (connection_tokens c ++ connections_after cs)

abbrev pub connections_tokens : List Connection → List Token
connections_tokens [] = []
connections_tokens (c ∷ cs) = connection_tokens c ++ connections_after cs

-- wire [ range ] name [ = expr ] ; | assign name = expr ; | name [ params ] name ( conns ) ;
abbrev pub entry_tokens : Entry → List Token
entry_tokens (wire w n) = word (codes "wire") ∷ (range_tokens w ++ word n ∷ mark 59 ∷ [])
entry_tokens (drive w n x) = word (codes "wire") ∷ (range_tokens w ++ word n ∷ mark 61 ∷ (expression_tokens x ++ mark 59 ∷ []))
entry_tokens (assign n x) = word (codes "assign") ∷ word n ∷ mark 61 ∷ (expression_tokens x ++ mark 59 ∷ [])
entry_tokens (inst m ps n cs) = word m ∷ (parameters_tokens ps ++ word n ∷ mark 40 ∷ (connections_tokens cs ++ mark 41 ∷ mark 59 ∷ []))

abbrev pub entries_tokens : List Entry → List Token
entries_tokens [] = []
entries_tokens (x ∷ xs) = entry_tokens x ++ entries_tokens xs

-- module name ( port { , port } ) ; { entry } endmodule
abbrev pub module_tokens : Module → List Token
module_tokens m =
    word (codes "module") ∷ word m.name ∷ mark 40 ∷ (ports_tokens m.ports ++ mark 41 ∷ mark 59 ∷ (entries_tokens m.entries ++ word (codes "endmodule") ∷ []))

-- { module }
abbrev pub modules_tokens : List Module → List Token
modules_tokens [] = []
modules_tokens (m ∷ ms) = module_tokens m ++ modules_tokens ms
