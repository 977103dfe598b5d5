-- The commands' names, and what stands behind each. Assumes nothing.
use Rattle.std.specs.Prelude.{ℕ, cond, List, None, Some, Option, codes}
use Rattle.std.specs.Option.{option_or}
use Rattle.std.specs.Str.{bytes_eq}
use Rattle.command.specs.declared.form.Form.{Form}
use Rattle.command.specs.declared.form.Form.TheVariants.{Rom, Ram, Bytes, Fill, Image, Protect, Patch, Chain, Script, Key, Latch, Second, Make, Step, Run, Reset, Look, Show}

-- The form of a name: of a line about memory, the panel, or the cards and their calls.
abbrev pub form_of_memory : List ℕ → Option Form
form_of_memory name =
    cond (bytes_eq name (codes "rom")) (Some Rom)
    (cond (bytes_eq name (codes "ram")) (Some Ram)
    (cond (bytes_eq name (codes "bytes")) (Some Bytes)
    (cond (bytes_eq name (codes "fill")) (Some Fill)
    (cond (bytes_eq name (codes "image")) (Some Image)
    (cond (bytes_eq name (codes "protect")) (Some Protect)
    (cond (bytes_eq name (codes "patch")) (Some Patch) None))))))

abbrev pub form_of_panel : List ℕ → Option Form
form_of_panel name =
    cond (bytes_eq name (codes "chain")) (Some Chain)
    (cond (bytes_eq name (codes "script")) (Some Script)
    (cond (bytes_eq name (codes "key")) (Some Key)
    (cond (bytes_eq name (codes "latch")) (Some Latch) None)))

abbrev pub form_of_call : List ℕ → Option Form
form_of_call name =
    cond (bytes_eq name (codes "second")) (Some Second)
    (cond (bytes_eq name (codes "make")) (Some Make)
    (cond (bytes_eq name (codes "step")) (Some Step)
    (cond (bytes_eq name (codes "run")) (Some Run)
    (cond (bytes_eq name (codes "reset")) (Some Reset)
    (cond (bytes_eq name (codes "look")) (Some Look)
    (cond (bytes_eq name (codes "show")) (Some Show) None))))))

abbrev pub form_of : List ℕ → Option Form
form_of name = option_or (option_or (form_of_memory name) (form_of_panel name)) (form_of_call name)

-- The command as it is to be written.
abbrev pub form_line : Form → List ℕ
form_line Rom = codes "rom LENGTH"
form_line Ram = codes "ram LENGTH"
form_line Bytes = codes "bytes ADDRESS HH .."
form_line Fill = codes "fill ADDRESS LENGTH HH"
form_line Image = codes "image ADDRESS FILE"
form_line Protect = codes "protect PAGE .."
form_line Patch = codes "patch ADDRESS=HH .."
form_line Chain = codes "chain RECORDS"
form_line Script = codes "script BYTE STATES HH .."
form_line Key = codes "key HH"
form_line Latch = codes "latch"
form_line Second = codes "second"
form_line Make = codes "make"
form_line Step = codes "step [TIMES]"
form_line Run = codes "run BUDGET [TIMES]"
form_line Reset = codes "reset"
form_line Look = codes "look CBAR CBR BBR ADDRESS LENGTH"
form_line Show = codes "show"
