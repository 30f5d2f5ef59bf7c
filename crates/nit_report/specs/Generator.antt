-- The files of a generated run: a configuration, the scripts of eight clients, and the user's
-- script. The lines of each script are drawn from a stream of its own.
use Rattle.std.specs.Prelude.{ℕ, ◌+◌, ◌*◌, ◌%◌, ◌^◌, ℤ, pos, ◌-ℤ◌, Bool, true, false, List, [], ◌∷◌}
use Rattle.std.specs.Prelude.{◌++◌, map, slice_index_or, codes}
use Rattle.nit_report.specs.Below.{BufferPart, Check, Configuration, Fill, InputLine, Line, Member}
use Rattle.nit_report.specs.Below.{decimal, flat_map, input_spelling, line_spelling, plain}
use Rattle.nit_report.specs.Below.{range_with_len, spelled}
use Rattle.nit_events.specs.declared.call.Call.TheVariants as call
use Rattle.nit_events.specs.declared.device.Device.TheVariants as device
use Rattle.nit_script.specs.declared.line.Line.TheVariants as line
use Rattle.nit_script.specs.declared.line.InputLine.TheVariants as input
use Rattle.nit_report.specs.Draw.{Draw, below, just, ◌>>=◌, draws_in_turn, for_each}
use Rattle.nit_report.specs.Files.{FilesModel}

-- ---- lines of a client's script

-- red, green and blue
unfoldable pub some_colour : Draw ℕ
some_colour = do
  red ← below 256
  green ← below 256
  blue ← below 256
  just ((red * 256 + green) * 256 + blue)

-- the whole buffer in one colour
abbrev pub backdrop : Draw Line
backdrop = do
  c ← some_colour
  just (line.Stroke (Fill 0 0 128 96 c))

-- a part of the buffer: a place, a width and a height
unfoldable pub some_part : Draw BufferPart
some_part = do
  x ← below 128
  y ← below 96
  w ← below 64
  h ← below 48
  just (record { x = x; y = y; w = 1 + w; h = 1 + h })

-- a part of the buffer in one colour
abbrev pub filled : Draw Line
filled = do
  p ← some_part
  c ← some_colour
  just (line.Stroke (Fill p.x p.y p.w p.h c))

-- a part of the buffer in two colours
abbrev pub checked : Draw Line
checked = do
  p ← some_part
  c ← some_colour
  d ← some_colour
  just (line.Stroke (Check p.x p.y p.w p.h c d))

-- a part of the buffer is to be shown anew
abbrev pub some_refresh : Draw Line
some_refresh = do
  p ← some_part
  just (line.Call (call.Refresh (pos p.x) (pos p.y) p.w p.h))

-- one of m numbers, from -20 on
unfoldable pub from_outside : ℕ → Draw ℤ
from_outside m = do
  n ← below m
  just (pos n -ℤ pos 20)

-- this view is moved
unfoldable pub placed : ℕ → Draw Line
placed v = do
  x ← from_outside 340
  y ← from_outside 260
  w ← below 100
  h ← below 60
  just (line.Call (call.Place v x y (20 + w) (10 + h)))

-- this view shows the buffer from elsewhere
abbrev pub shifted : ℕ → Draw Line
shifted v = do
  x ← from_outside 41
  y ← from_outside 41
  just (line.Call (call.Offset v x y))

-- this view has its number as its title
abbrev pub titled : ℕ → Line
titled v = line.Call (call.Title v (codes "w" ++ decimal v))

-- one of the sixteen views
abbrev pub some_view : Draw ℕ
some_view = do
  v ← below 16
  just (1 + v)

-- the eight kinds of line of the second phase, in order
abbrev pub kinds : List (Draw Line)
kinds =
    filled
    ∷ checked
    ∷ (some_view >>= placed)
    ∷ (some_view >>= λ v. just (line.Call (call.Front v)))
    ∷ (some_view >>= λ v. just (line.Call (call.Back v)))
    ∷ some_refresh
    ∷ just (line.Call call.Take)
    ∷ (some_view >>= shifted)
    ∷ []

-- the line of this number, from 0, of the second phase; one of the eight kinds is always there
abbrev pub busy : ℕ → Draw Line
busy j = slice_index_or kinds (j % 8) (just (line.Call call.Take))

-- ---- scripts

-- a buffer in one colour
abbrev pub buffer_lines : List (Draw Line)
buffer_lines = just (line.Call (call.Buffer 128 96)) ∷ backdrop ∷ []

-- sixteen views
abbrev pub views : List (Draw Line)
views = for_each 1 16 (λ v. just (line.Call call.View) ∷ [])

-- their places
abbrev pub places : List (Draw Line)
places = for_each 1 16 (λ v. placed v ∷ [])

-- their titles
abbrev pub titles : List (Draw Line)
titles = for_each 1 16 (λ v. just (titled v) ∷ [])

-- 1,944 lines of eight kinds
abbrev pub busy_lines : List (Draw Line)
busy_lines = for_each 0 1944 (λ j. busy j ∷ [])

-- the end of a phase
abbrev pub phase_end : List (Draw Line)
phase_end = just line.Phase ∷ []

-- a client: its views in the first phase, what it does with them in the second, and nothing in the
-- third
abbrev pub first_phase : List (Draw Line)
first_phase = buffer_lines ++ views ++ places ++ titles ++ phase_end

abbrev pub second_phase : List (Draw Line)
second_phase = busy_lines ++ phase_end

-- the pointer is moved
abbrev pub some_motion : Draw InputLine
some_motion = do
  x ← below 320
  y ← below 240
  just (input.Device (device.Motion x y))

-- the pointer is moved, and the button 272 and the wheel are used there
abbrev pub click : List (Draw InputLine)
click =
    some_motion
    ∷ just (input.Device (device.Press 272))
    ∷ just (input.Device (device.Release 272))
    ∷ just (input.Device (device.Wheel (pos 1)))
    ∷ []

-- fifty times
abbrev pub clicks : List (Draw InputLine)
clicks = for_each 0 50 (λ i. click)

-- the end of a phase
abbrev pub user_phase_end : List (Draw InputLine)
user_phase_end = just input.Phase ∷ []

-- a shot in X-ray mode
abbrev pub xray_shot : List (Draw InputLine)
xray_shot =
    just (input.Device (device.Press 70))
    ∷ just input.Shot
    ∷ just (input.Device (device.Press 70))
    ∷ []

-- the user: nothing in the first phase, fifty clicks in the second, and a shot in the third
abbrev pub user_phases : List (Draw InputLine)
user_phases = user_phase_end ++ clicks ++ user_phase_end ++ xray_shot

-- the number at which a stream of the run of number n begins: the streams 0 to 7 are the clients',
-- and 8 is the user's
abbrev pub seed : ℕ → ℕ → ℕ
seed n stream = (9 * n + stream) % 2 ^ 32

-- the lines of a client's script
unfoldable pub client_script : ℕ → ℕ → List Line
client_script n c = (draws_in_turn (first_phase ++ second_phase) (seed n c)).0

-- the lines of the user's script
unfoldable pub user_script : ℕ → List InputLine
user_script n = (draws_in_turn user_phases (seed n 8)).0

-- ---- what lines are

-- a call
abbrev pub is_call : Line → Bool
is_call (line.Call c) = true
is_call other = false

-- something that the user does
abbrev pub is_device : InputLine → Bool
is_device (input.Device d) = true
is_device other = false

-- a shot
abbrev pub is_shot_line : InputLine → Bool
is_shot_line input.Shot = true
is_shot_line other = false

-- ---- files

-- the bytes that spell a client's script
abbrev pub client_text : ℕ → ℕ → List ℕ
client_text n c = flat_map (spelled line_spelling) (client_script n c)

-- the bytes that spell the user's script
abbrev pub user_text : ℕ → List ℕ
user_text n = flat_map (spelled input_spelling) (user_script n)

-- the label of a client, and the name of its script
abbrev pub client_label : ℕ → List ℕ
client_label c = codes "g" ++ decimal c

abbrev pub script_name : ℕ → List ℕ
script_name c = client_label c ++ codes ".nit"

-- a client in the text of the configuration, after an empty line
abbrev pub client_block : ℕ → List ℕ
client_block c =
    codes "\n[[client]]\nlabel = \"" ++ client_label c
    ++ codes "\"\ndonation = 262144\nscript = \"" ++ script_name c ++ codes "\"\n"

-- the text of the configuration
unfoldable pub config_text : List ℕ
config_text =
    codes "[screen]\nwidth = 320\nheight = 240\n\n[input]\nscript = \"gen.in\"\n"
    ++ flat_map client_block (range_with_len 0 8)

-- the files of the run of number n
abbrev pub generated : ℕ → FilesModel
generated n =
    record {
      config = config_text;
      clients = map (client_text n) (range_with_len 0 8);
      input = user_text n;
    }

-- ---- the configuration

-- a client of the configuration
abbrev pub generated_member : ℕ → Member
generated_member c =
    record {
      label = client_label c;
      donation = 262144;
      script = script_name c;
      layer = 0;
      clicks = true;
    }

-- the configuration of every generated run
unfoldable pub generated_configuration : Configuration
generated_configuration =
    record {
      width = 320;
      height = 240;
      bar = false;
      lettering = plain;
      input = codes "gen.in";
      clients = map generated_member (range_with_len 0 8);
    }
