-- Cutting an input into lines, and what is printed for it. 10 is the line feed.
use Rattle.std.specs.Prelude.{◌≡◌, ℕ, cond, List, [], ◌∷◌, ◌++◌, take, Some, None, Option, ◌==◌, ◌≢◌}
use Rattle.std.specs.List.{flat_map, AllByRecursion}
use Rattle.lines.specs.Held.{held}
use Rattle.lines.specs.Replies.{reply_to}
use Rattle.lines.specs.declared.session.Session.{Session}

-- a byte put before the first of some lines, or on a line of its own
abbrev pub on_first : ℕ → List (List ℕ) → List (List ℕ)
on_first b [] = (b ∷ []) ∷ []
on_first b (line ∷ lines) = (b ∷ line) ∷ lines

-- the lines of an input
abbrev pub lines_of : List ℕ → List (List ℕ)
lines_of [] = []
lines_of (b ∷ bs) = cond (b == 10) ([] ∷ lines_of bs) (on_first b (lines_of bs))

-- an input with a line feed after its last line, if there is none
abbrev pub ended : List ℕ → List ℕ
ended [] = []
ended (b ∷ []) = cond (b == 10) (b ∷ []) (b ∷ 10 ∷ [])
ended (b ∷ c ∷ bs) = b ∷ ended (c ∷ bs)

-- no line has a line feed, and the lines with a line feed after each make up the input
pub record Cut (input : List ℕ) : Type 0 where
  pub plain : AllByRecursion (λ line. AllByRecursion (λ b. b ≢ 10) line) (lines_of input)
  pub whole : flat_map (λ line. line ++ 10 ∷ []) (lines_of input) ≡ ended input

-- what is printed for an input: the reply to each of its lines
abbrev pub printed_for : List ℕ → List ℕ
printed_for input = flat_map reply_to (lines_of input)

-- the line that a session has begun
abbrev pub begun : Session → List ℕ
begun session = held session.line

-- the line after one more byte: what follows its 33rd byte does not matter, and is dropped
abbrev pub begun_after : List ℕ → ℕ → List ℕ
begun_after line b = cond (b == 10) [] (take 33 (line ++ b ∷ []))

-- what one more byte has printed
abbrev pub reply_at : List ℕ → ℕ → Option (List ℕ)
reply_at line b = cond (b == 10) (Some (reply_to line)) None

-- what the end of the input has printed
abbrev pub reply_at_end : List ℕ → Option (List ℕ)
reply_at_end [] = None
reply_at_end (b ∷ bs) = Some (reply_to (b ∷ bs))

abbrev pub bytes_of : Option (List ℕ) → List ℕ
bytes_of None = []
bytes_of (Some bytes) = bytes

-- what is printed in all for an input that is fed byte by byte, when a line has begun
abbrev pub fed : List ℕ → List ℕ → List ℕ
fed line [] = bytes_of (reply_at_end line)
fed line (b ∷ bs) = bytes_of (reply_at line b) ++ fed (begun_after line b) bs

-- fed byte by byte, every input has the replies to its lines printed
abbrev pub FedRight : Type 0
FedRight = (input : List ℕ) → fed [] input ≡ printed_for input

-- every input is cut rightly
abbrev pub CutRight : Type 0
CutRight = (input : List ℕ) → Cut input
