-- What the reading of a part of the input took, by what it came to.
use Rattle.std.specs.Prelude.{◌≡◌, ℕ, ◌+◌, ◌<◌, ◌≤◌, List, [], ◌∷◌, ◌++◌, length, Option, Result, Ok, Err}
use Rattle.cg_base.specs.Outside.{Rose, Taken}
use Rattle.cg_base.specs.declared.memory.Memory.{Memory}
use Rattle.cg_inputs.specs.Lines.{HasNoFeed, Line, Says}
use Rattle.cg_session.specs.declared.reader.Byte.{Byte}
use Rattle.cg_session.specs.declared.reader.Byte.TheVariants as byte
use Rattle.cg_session.specs.declared.reader.Piece.{Piece}
use Rattle.cg_session.specs.declared.reader.Piece.TheVariants as piece
use Rattle.cg_session.specs.declared.reader.LinePiece.{LinePiece}
use Rattle.cg_session.specs.declared.reader.LinePiece.TheVariants as line
use Rattle.cg_session.specs.declared.reader.TextRead.{TextRead}
use Rattle.cg_session.specs.declared.reader.TextRead.TheVariants.{Whole, False, Long, Ended, Full, Failed}
use Rattle.cg_session.specs.declared.reader.BytesRead.{BytesRead}
use Rattle.cg_session.specs.declared.reader.BytesRead.TheVariants as bytes
use Rattle.cg_session.specs.declared.command.Got.{Got}
use Rattle.cg_session.specs.declared.command.Got.TheVariants as got
use Rattle.cg_session.specs.Session.{IsSpent}
use Rattle.cg_inputs.specs.Input.{Command, put_file, del_file, build_files, Begins, IsEnd, IsNone, IsShort}

-- ---- pieces of a line, and of a put's bytes

-- one byte was taken, or none
abbrev pub TakesByte : Byte → Option (List ℕ) → Option (List ℕ) → ℕ → ℕ → Type 0
TakesByte (byte.One b) old new f g = Taken old new (b ∷ []) × (f ≤ g)
TakesByte byte.End old new f g = Taken old new [] × IsSpent new × (f ≤ g)
TakesByte byte.Failed old new f g = Taken old new [] × Rose f g × (f ≤ g)

-- some bytes were taken, at most so many
pub record TakesSome (room : ℕ) (old new : Option (List ℕ)) (f g : ℕ) : Type 0 where
  pub bytes : List ℕ
  pub taken : Taken old new bytes
  pub within : length bytes ≤ room
  pub later : f ≤ g

-- more bytes were taken, and appended
pub record TakesMore (most : ℕ) (before after : List ℕ) (old new : Option (List ℕ)) (f g : ℕ) : Type 0 where
  pub piece : List ℕ
  pub taken : Taken old new piece
  pub some : 0 < length piece
  pub within : length piece ≤ most
  pub grown : after ≡ before ++ piece
  pub later : f ≤ g

-- no byte was taken
pub record TakesNone (before after : List ℕ) (old new : Option (List ℕ)) (f g : ℕ) : Type 0 where
  pub taken : Taken old new []
  pub grown : after ≡ before
  pub later : f ≤ g

abbrev pub TakesPiece : Result Piece Memory → ℕ → List ℕ → List ℕ → Option (List ℕ) → Option (List ℕ) → ℕ → ℕ → Type 0
TakesPiece (Ok piece.More) most before after old new f g = TakesMore most before after old new f g
TakesPiece (Ok piece.End) most before after old new f g = TakesNone before after old new f g × IsSpent new
TakesPiece (Ok piece.Failed) most before after old new f g = TakesNone before after old new f g × Rose f g
TakesPiece (Err e) most before after old new f g = TakesSome most old new f g

-- ---- pieces of a line

-- the piece is of the line
pub record IsOfLine (piece before after : List ℕ) : Type 0 where
  pub is_line : HasNoFeed piece
  pub grown : after ≡ before ++ piece

-- the piece goes on to the line feed and beyond it
pub record GoesTo (rest piece before after : List ℕ) : Type 0 where
  pub front : List ℕ
  pub is_line : HasNoFeed front
  pub is : piece ≡ front ++ (10 ∷ rest)
  pub grown : after ≡ before ++ front

-- beyond it by some bytes
pub record GoesBeyond (piece before after : List ℕ) : Type 0 where
  pub rest : List ℕ
  pub some : 0 < length rest
  pub goes : GoesTo rest piece before after

abbrev pub AddsPiece : Result LinePiece Memory → List ℕ → List ℕ → List ℕ → Type 0
AddsPiece (Ok line.More) piece before after = IsOfLine piece before after
AddsPiece (Ok line.Whole) piece before after = GoesTo [] piece before after
AddsPiece (Ok line.Beyond) piece before after = GoesBeyond piece before after
AddsPiece (Ok line.End) piece before after = ⊥
AddsPiece (Ok line.Failed) piece before after = ⊥
AddsPiece (Err e) piece before after = Unit {0}

-- a piece was taken, and appended so
pub record TakesAdded (r : Result LinePiece Memory) (ask : ℕ) (before after : List ℕ) (old new : Option (List ℕ)) (f g : ℕ) : Type 0 where
  pub piece : List ℕ
  pub taken : Taken old new piece
  pub some : 0 < length piece
  pub within : length piece ≤ ask
  pub adds : AddsPiece r piece before after
  pub later : f ≤ g

abbrev pub TakesLinePiece : Result LinePiece Memory → ℕ → List ℕ → List ℕ → Option (List ℕ) → Option (List ℕ) → ℕ → ℕ → Type 0
TakesLinePiece (Ok line.More) ask before after old new f g = TakesAdded (Ok line.More) ask before after old new f g
TakesLinePiece (Ok line.Whole) ask before after old new f g = TakesAdded (Ok line.Whole) ask before after old new f g
TakesLinePiece (Ok line.Beyond) ask before after old new f g = TakesAdded (Ok line.Beyond) ask before after old new f g
TakesLinePiece (Ok line.End) ask before after old new f g = TakesNone before after old new f g × IsSpent new
TakesLinePiece (Ok line.Failed) ask before after old new f g = TakesNone before after old new f g × Rose f g
TakesLinePiece (Err e) ask before after old new f g = TakesSome ask old new f g

-- ---- whole lines

-- bytes of one line were taken
pub record TakesPart (room : ℕ) (text : List ℕ) (old new : Option (List ℕ)) (f g : ℕ) : Type 0 where
  pub taken : Taken old new text
  pub is_line : HasNoFeed text
  pub short : length text ≤ 100
  pub within : length text ≤ room
  pub later : f ≤ g

-- a whole line was taken
pub record TakesWhole (room : ℕ) (text : List ℕ) (old new : Option (List ℕ)) (f g : ℕ) : Type 0 where
  pub taken : Taken old new (text ++ 10 ∷ [])
  pub is_line : HasNoFeed text
  pub within : length text < room
  pub later : f ≤ g

-- a whole line that says nothing was taken, and bytes behind it
pub record TakesBroken (room : ℕ) (text : List ℕ) (old new : Option (List ℕ)) (f g : ℕ) : Type 0 where
  pub rest : List ℕ
  pub taken : Taken old new (text ++ (10 ∷ rest))
  pub is_line : HasNoFeed text
  pub says_nothing : (l : Line) → ¬ Says text l
  pub within : length (text ++ (10 ∷ rest)) ≤ room
  pub later : f ≤ g

-- 101 bytes of one line were taken
pub record TakesLong (room : ℕ) (text : List ℕ) (old new : Option (List ℕ)) (f g : ℕ) : Type 0 where
  pub taken : Taken old new text
  pub is_line : HasNoFeed text
  pub long : 101 ≤ length text
  pub within : length text ≤ room
  pub later : f ≤ g

-- bytes of one line up to the limit were taken, and one more byte
pub record TakesFull (room : ℕ) (text : List ℕ) (old new : Option (List ℕ)) (f g : ℕ) : Type 0 where
  pub more : ℕ
  pub taken : Taken old new (text ++ more ∷ [])
  pub is_line : HasNoFeed text
  pub short : length text ≤ 100
  pub full : length text ≡ room
  pub later : f ≤ g

abbrev pub TakesText : Result TextRead Memory → ℕ → List ℕ → Option (List ℕ) → Option (List ℕ) → ℕ → ℕ → Type 0
TakesText (Ok Whole) room text old new f g = TakesWhole room text old new f g
TakesText (Ok False) room text old new f g = TakesBroken room text old new f g
TakesText (Ok Long) room text old new f g = TakesLong room text old new f g
TakesText (Ok Ended) room text old new f g = TakesPart room text old new f g × IsSpent new
TakesText (Ok Full) room text old new f g = TakesFull room text old new f g
TakesText (Ok Failed) room text old new f g = TakesPart room text old new f g × Rose f g
TakesText (Err e) room text old new f g = TakesSome room old new f g

-- bytes that a put's line asks for
pub record TakesFew (count room : ℕ) (text : List ℕ) (old new : Option (List ℕ)) (f g : ℕ) : Type 0 where
  pub taken : Taken old new text
  pub few : length text < count
  pub within : length text ≤ room
  pub later : f ≤ g

pub record TakesAll (count room : ℕ) (text : List ℕ) (old new : Option (List ℕ)) (f g : ℕ) : Type 0 where
  pub taken : Taken old new text
  pub all : length text ≡ count
  pub within : length text ≤ room
  pub later : f ≤ g

pub record TakesRoom (count room : ℕ) (text : List ℕ) (old new : Option (List ℕ)) (f g : ℕ) : Type 0 where
  pub more : ℕ
  pub taken : Taken old new (text ++ more ∷ [])
  pub few : length text < count
  pub full : length text ≡ room
  pub later : f ≤ g

abbrev pub TakesBytes : Result BytesRead Memory → ℕ → ℕ → List ℕ → Option (List ℕ) → Option (List ℕ) → ℕ → ℕ → Type 0
TakesBytes (Ok bytes.Whole) count room text old new f g = TakesAll count room text old new f g
TakesBytes (Ok bytes.Ended) count room text old new f g = TakesFew count room text old new f g × IsSpent new
TakesBytes (Ok bytes.Full) count room text old new f g = TakesRoom count room text old new f g
TakesBytes (Ok bytes.Failed) count room text old new f g = TakesFew count room text old new f g × Rose f g
TakesBytes (Err e) count room text old new f g = TakesSome room old new f g

-- ---- whole commands

-- a whole command was taken, and no byte behind it
pub record TakesNext (c : Command) (room room' : ℕ) (old new : Option (List ℕ)) (f g : ℕ) : Type 0 where
  pub bytes : List ℕ
  pub taken : Taken old new bytes
  pub begins : Begins bytes c []
  pub counted : length bytes + room' ≡ room
  pub later : f ≤ g

-- the line `end` was taken, and no byte behind it
pub record TakesEnd (room : ℕ) (old new : Option (List ℕ)) (f g : ℕ) : Type 0 where
  pub bytes : List ℕ
  pub taken : Taken old new bytes
  pub is_end : IsEnd bytes []
  pub within : length bytes ≤ room
  pub later : f ≤ g

-- bytes were taken that begin with no command
pub record TakesFalse (room : ℕ) (old new : Option (List ℕ)) (f g : ℕ) : Type 0 where
  pub bytes : List ℕ
  pub taken : Taken old new bytes
  pub is_none : IsNone bytes
  pub within : length bytes ≤ room
  pub later : f ≤ g

-- less than a command was taken
pub record TakesLess (room : ℕ) (old new : Option (List ℕ)) (f g : ℕ) : Type 0 where
  pub bytes : List ℕ
  pub taken : Taken old new bytes
  pub is_short : IsShort bytes
  pub within : length bytes ≤ room
  pub later : f ≤ g

-- less than a command was taken up to the limit, and one more byte
pub record TakesOver (room : ℕ) (old new : Option (List ℕ)) (f g : ℕ) : Type 0 where
  pub bytes : List ℕ
  pub more : ℕ
  pub taken : Taken old new (bytes ++ more ∷ [])
  pub is_short : IsShort bytes
  pub full : length bytes ≡ room
  pub later : f ≤ g

abbrev pub TakesCommand : Result Got Memory → ℕ → ℕ → Option (List ℕ) → Option (List ℕ) → ℕ → ℕ → Type 0
TakesCommand (Ok (got.Put name bytes)) room room' old new f g = TakesNext (put_file name bytes) room room' old new f g
TakesCommand (Ok (got.Del name)) room room' old new f g = TakesNext (del_file name) room room' old new f g
TakesCommand (Ok got.Build) room room' old new f g = TakesNext build_files room room' old new f g
TakesCommand (Ok got.Finish) room room' old new f g = TakesEnd room old new f g
TakesCommand (Ok got.NoCommand) room room' old new f g = TakesFalse room old new f g
TakesCommand (Ok got.Ended) room room' old new f g = TakesLess room old new f g × IsSpent new
TakesCommand (Ok got.Full) room room' old new f g = TakesOver room old new f g
TakesCommand (Ok got.Failed) room room' old new f g = TakesLess room old new f g × Rose f g
TakesCommand (Err e) room room' old new f g = TakesSome room old new f g
