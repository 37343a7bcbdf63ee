-- What is wrong with a line, in words. Assumes nothing.
use Rattle.std.specs.Prelude.{ℕ, List, ◌++◌, codes}
use Rattle.std.specs.List.{flat_map}
use Rattle.script.specs.Texts.{shown_byte}
use Rattle.script.specs.declared.command.Fault.{Fault}
use Rattle.script.specs.declared.command.Fault.TheVariants.{UnknownCommand, Takes, NotANumber, NotADigest, NoMemory}

abbrev pub Text : Type 0
Text = List ℕ

-- a word as it can be shown; a blank, which no word has, would be \x20
abbrev pub shown_word : List ℕ → Text
shown_word word = flat_map (shown_byte 33) word

abbrev pub fault_text : Fault → Text
fault_text (UnknownCommand word) = codes "refused, 1: there is no command '" ++ (shown_word word.now ++ codes "'")
fault_text (Takes usage) = codes "refused, 1: it is spoken '" ++ (usage.now ++ codes "'")
fault_text (NotANumber word) = codes "refused, 1: '" ++ (shown_word word.now ++ codes "' is no number below 2^64")
fault_text (NotADigest word) = codes "refused, 1: '" ++ (shown_word word.now ++ codes "' is no digest of 64 hexadecimal digits")
fault_text NoMemory = codes "there is no memory for this line"
