-- From commands to a log: blocks as the box writes them, each with as many commands as fit. Assumes nothing.
use Rattle.std.specs.Prelude.{ℕ, zero, suc, ◌+◌, ◌-◌, List, [], ◌∷◌, ◌++◌, map, length, leb}
use Rattle.codec.specs.Pick.{pick}
use Rattle.codec.specs.Sheet.{got}
use Rattle.commands.specs.Writing.{payload_of}
use Rattle.commands.specs.declared.DirectCommands.{DirectCommands}
use Rattle.blocks.specs.Block.{most_used, first_place}
use Rattle.blocks.specs.Laid.{block_of}
use Rattle.replay.specs.Events.{record_event}
use Rattle.replay.specs.Log.{Handed, handed}
use Rattle.replay.specs.declared.Event.{Event}

-- "A record is a length byte, 4 to 60, and a payload"
abbrev pub record_size : DirectCommands → ℕ
record_size c = suc (length (payload_of c))

-- the commands at the front whose records fit into so many bytes
abbrev pub fitting : ℕ → List DirectCommands → List DirectCommands
fitting room [] = []
fitting room (c ∷ cs) = pick (leb (record_size c) room) (c ∷ fitting (room - record_size c) cs) []

-- a block with them: "used bytes (2, at most 505)"
abbrev pub block_with : ℕ → List DirectCommands → List ℕ
block_with n cs = block_of n (map payload_of (fitting most_used cs))

-- their events: "each command in order with block and place", the first at a place, each behind the one before it
abbrev pub command_events : ℕ → ℕ → List DirectCommands → List Event
command_events n at [] = []
command_events n at (c ∷ cs) = record_event n at (got c) ∷ command_events n (at + record_size c) cs

-- a log of such blocks, each with commands of its own, numbered from n on
abbrev pub log_with : ℕ → ℕ → List (List DirectCommands) → List Handed
log_with position n [] = []
log_with position n (cs ∷ css) = handed position (block_with n cs) ∷ log_with (position + 1) (n + 1) css

abbrev pub log_commands : ℕ → List (List DirectCommands) → List Event
log_commands n [] = []
log_commands n (cs ∷ css) = command_events n first_place (fitting most_used cs) ++ log_commands (n + 1) css

-- ---- a log of any commands: each block takes as many as fit, the next one what is left
abbrev pub left_over : ℕ → List DirectCommands → List DirectCommands
left_over room [] = []
left_over room (c ∷ cs) = pick (leb (record_size c) room) (left_over (room - record_size c) cs) (c ∷ cs)

-- what each block is to take of: all, what the first leaves, and so on. (Each takes one at least: `most` bounds them.)
abbrev pub shared_out : ℕ → List DirectCommands → List (List DirectCommands)
shared_out zero cs = []
shared_out (suc most) [] = []
shared_out (suc most) (c ∷ cs) = (c ∷ cs) ∷ shared_out most (left_over most_used (c ∷ cs))

-- THE log of commands, its blocks numbered from n on
abbrev pub log_of : ℕ → ℕ → List DirectCommands → List Handed
log_of position n cs = log_with position n (shared_out (length cs) cs)

abbrev pub commands_in : List Event → List DirectCommands
commands_in es = map (λ e. e.command) es
