-- What is known of real inputs: the bytes at hand, and those that the open text and standard input have left.
use Rattle.std.specs.Prelude.{◌≡◌, ℕ, List, [], Option, None, Some}
use Rattle.std.specs.Io.KnownBytes.{prepend_known}
use Rattle.aut_io.specs.Seen.{Seen}
use Rattle.real_io.specs.declared.inputs.Origin.{Origin}
use Rattle.real_io.specs.declared.inputs.Origin.TheVariants.{File, Nothing, Standard}
use Rattle.real_io.specs.declared.inputs.RealInputs.{RealInputs}

-- what `Seen` has of them: nothing but the counts of failed calls
abbrev pub seen_of_real : {R O F : Type 0} → RealInputs R O F → Seen
seen_of_real s = record { texts = None; left = None; openings = s.openings; open_faults = s.open_faults; read_faults = s.read_faults }

-- the bytes at hand: those of the block, where a text is open
abbrev pub at_hand_in : {F : Type 0} → Origin F → List ℕ → List ℕ
at_hand_in Nothing block = []
at_hand_in _ block = block

abbrev pub at_hand : {R O F : Type 0} → RealInputs R O F → List ℕ
at_hand s = at_hand_in s.origin s.block

-- the bytes of the block that belong to standard input; while a file is open they are the file's
abbrev pub of_standard : {F : Type 0} → Origin F → List ℕ → List ℕ
of_standard (File file) block = []
of_standard _ block = block

-- what the open text has left, where it is known: the block, and then what the reader of the text has
abbrev pub left_of : {R F : Type 0} → (R → Option (List ℕ)) → (F → Option (List ℕ)) → R → Origin F → List ℕ → Option (List ℕ)
left_of of_reader of_file standard Nothing block = Some []
left_of of_reader of_file standard Standard block = prepend_known block (of_reader standard)
left_of of_reader of_file standard (File file) block = prepend_known block (of_file file)

abbrev pub unread_text : {R O F : Type 0} → (R → Option (List ℕ)) → (F → Option (List ℕ)) → RealInputs R O F → Option (List ℕ)
unread_text of_reader of_file s = left_of of_reader of_file s.standard s.origin s.block

-- what standard input has left, where it is known
abbrev pub unread_standard : {R O F : Type 0} → (R → Option (List ℕ)) → RealInputs R O F → Option (List ℕ)
unread_standard of_reader s = prepend_known (of_standard s.origin s.block) (of_reader s.standard)

-- Standard input is as it was: its reader, and what the block holds of it.
abbrev pub KeepsStandard : {R O F : Type 0} → RealInputs R O F → RealInputs R O F → Type 0
KeepsStandard old new = (new.standard ≡ old.standard) × (of_standard new.origin new.block ≡ of_standard old.origin old.block)
