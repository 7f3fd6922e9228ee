-- Worked sticks: a good one, one for each problem, and those that a tool has passed wrongly.
use Rattle.std.specs.Prelude.{◌≡◌, List, [], ◌∷◌, ◌++◌, ℕ, ◌+◌, ◌*◌, ◌^◌, Result, Ok, Err}
use Rattle.shared_words.specs.declared.Refusal.TheVariants.{Slip}
use Rattle.shared_words.specs.Bytes.{packed}
use Rattle.slip_sums.specs.Fletcher.{sum_of}
use Rattle.slip_rules.specs.Slip.{Entry}
use Rattle.shared_words.specs.declared.Refusal.{Refusal}
use Rattle.shared_words.specs.declared.Refusal.TheVariants.{Unchecked, Unexpected, Changed, BadFigure, Absent, Incomplete, NoFigure}
use Rattle.stick_rules.specs.Names.{slip_name, format_of}
use Rattle.stick_rules.specs.Items.{Item}
use Rattle.stick_rules.specs.Judge.{judgement}
use Rattle.stick_rules.specs.Records.{judge_call}

-- a.3ds, A.3DS, d/.cob, e
abbrev pub figure : List ℕ
figure = 97 ∷ 46 ∷ 51 ∷ 100 ∷ 115 ∷ []

abbrev pub capital : List ℕ
capital = 65 ∷ 46 ∷ 51 ∷ 68 ∷ 83 ∷ []

abbrev pub bare : List ℕ
bare = 100 ∷ 47 ∷ 46 ∷ 99 ∷ 111 ∷ 98 ∷ []

abbrev pub text : List ℕ
text = 101 ∷ []

abbrev pub item : List ℕ → ℕ → ℕ → ℕ → ℕ → ℕ → Item
item path kind size checksum reader answer = record { path = path; kind = kind; size = size; checksum = checksum; reader = reader; answer = answer }

-- a folder with n names; the stick itself is one, of no name
abbrev pub folder : List ℕ → ℕ → Item
folder path n = item path 2 (1 + n) 0 0 0

abbrev pub root : ℕ → Item
root n = folder [] n

-- a file of this length that was read whole, with the sums 3 and 4; a figure that its reader has accepted; a file that nobody has looked at
abbrev pub read : List ℕ → ℕ → Item
read path size = item path 1 size (65_536 * size + 1027) 0 0

abbrev pub accepted : List ℕ → ℕ → Item
accepted path size = item path 1 size (65_536 * size + 1027) 1 7

abbrev pub unread : List ℕ → ℕ → Item
unread path size = item path 1 size 0 0 0

abbrev pub line : List ℕ → ℕ → Entry
line name size = record { name = name; file = size; first = 3; second = 4 }

-- rtick.slip
abbrev pub other_name : List ℕ
other_name = 114 ∷ 116 ∷ 105 ∷ 99 ∷ 107 ∷ 46 ∷ 115 ∷ 108 ∷ 105 ∷ 112 ∷ []

-- expected: a slip of 40 bytes with the sums 3 and 4, and the files of these entries
abbrev pub slip : List Entry → List Entry
slip es = line slip_name 40 ∷ es

abbrev pub its_slip : Item
its_slip = read slip_name 40

abbrev pub refused : Refusal → Result Unit Refusal
refused = Err

-- d, d/a.3ds
abbrev pub dir : List ℕ
dir = 100 ∷ []

abbrev pub inner : List ℕ
inner = 100 ∷ 47 ∷ figure

-- one entry, of the figure; and one more, of a file in the folder d
abbrev pub one : List Entry
one = slip (line figure 86 ∷ [])

abbrev pub two : List Entry
two = slip (line figure 86 ∷ line inner 86 ∷ [])

pub record Samples : Type 0 where
  pub good : judgement one (root 2 ∷ accepted capital 86 ∷ its_slip ∷ []) ≡ (Ok tt)
  pub in_a_folder : judgement two (root 3 ∷ folder dir 1 ∷ accepted inner 86 ∷ accepted figure 86 ∷ its_slip ∷ []) ≡ (Ok tt)
  pub missing : judgement (slip (line figure 86 ∷ line text 2 ∷ [])) (root 2 ∷ accepted figure 86 ∷ its_slip ∷ []) ≡ refused (Absent 2)
  pub extra : judgement one (root 3 ∷ accepted figure 86 ∷ unread text 2 ∷ its_slip ∷ []) ≡ refused (Unexpected 2)
  pub same-name_twice : judgement one (root 3 ∷ accepted capital 86 ∷ accepted figure 86 ∷ its_slip ∷ []) ≡ refused (Unexpected 2)
  pub longer : judgement (slip (line figure 85 ∷ [])) (root 2 ∷ accepted figure 86 ∷ its_slip ∷ []) ≡ refused (Changed 1)
  pub longer_unread : judgement (slip (line figure 85 ∷ [])) (root 2 ∷ unread figure 86 ∷ its_slip ∷ []) ≡ refused (Changed 1)
  pub other_sums_lem : judgement one (root 2 ∷ item figure 1 86 (65_536 * 86 + 1028) 1 7 ∷ its_slip ∷ []) ≡ refused (Changed 1)
  -- folders: one that leads to no entry, empty or in place of a lost name; one met twice; one where the slip has a file
  pub empty-folder : judgement one (root 3 ∷ accepted figure 86 ∷ its_slip ∷ folder dir 0 ∷ []) ≡ refused (Unexpected 3)
  pub folder_twice : judgement two
      (root 4 ∷ folder dir 1 ∷ folder (68 ∷ []) 0 ∷ accepted inner 86 ∷ accepted figure 86 ∷ its_slip ∷ []) ≡ refused (Unexpected 2)
  pub file-and-folder : judgement (slip (line figure 86 ∷ line dir 2 ∷ line inner 86 ∷ []))
      (root 4 ∷ read dir 2 ∷ folder dir 1 ∷ accepted inner 86 ∷ accepted figure 86 ∷ its_slip ∷ []) ≡ refused (Unexpected 2)
  pub part-of-a-name : judgement two (root 3 ∷ folder (97 ∷ []) 1 ∷ accepted inner 86 ∷ accepted figure 86 ∷ its_slip ∷ []) ≡ refused (Unexpected 1)
  -- the stick's own folder: not there, not first, twice, not listed, a file of no name
  pub no-root : judgement one (accepted figure 86 ∷ its_slip ∷ []) ≡ refused (Unchecked 0)
  pub root-later : judgement two (folder dir 1 ∷ accepted inner 86 ∷ root 3 ∷ accepted figure 86 ∷ its_slip ∷ []) ≡ refused (Unexpected 0)
  pub root_twice : judgement one (root 3 ∷ root 0 ∷ accepted figure 86 ∷ its_slip ∷ []) ≡ refused (Unexpected 1)
  pub root-unlisted : judgement one (item [] 2 0 0 0 0 ∷ accepted figure 86 ∷ its_slip ∷ []) ≡ refused (Unchecked 0)
  pub no_name : judgement (slip (line figure 86 ∷ line [] 2 ∷ [])) (root 3 ∷ read [] 2 ∷ accepted figure 86 ∷ its_slip ∷ []) ≡ refused (Unexpected 1)
  -- evidence that is not there
  pub nothing-at-all : judgement (slip []) [] ≡ refused Incomplete
  pub not_looked_at : judgement one (root 2 ∷ item figure 0 0 0 0 0 ∷ its_slip ∷ []) ≡ refused (Unchecked 1)
  pub not-read : judgement one (root 2 ∷ unread figure 86 ∷ its_slip ∷ []) ≡ refused (Unchecked 1)
  pub read_in_part : judgement (slip (line text 86 ∷ [])) (root 2 ∷ item text 1 86 (65_536 * 85 + 1027) 0 0 ∷ its_slip ∷ []) ≡ refused (Unchecked 1)
  pub not-judged : judgement one (root 2 ∷ read figure 86 ∷ its_slip ∷ []) ≡ refused (Unchecked 1)
  pub other_reader : judgement (slip (line bare 86 ∷ [])) (root 2 ∷ accepted bare 86 ∷ its_slip ∷ []) ≡ refused (Unchecked 1)
  pub not_listed : judgement two (root 3 ∷ accepted figure 86 ∷ item dir 2 0 0 0 0 ∷ its_slip ∷ []) ≡ refused (Unchecked 2)
  pub its_reader_refused : judgement one (root 2 ∷ item figure 1 86 (65_536 * 86 + 1027) 1 (2 ^ 32) ∷ its_slip ∷ []) ≡ refused (BadFigure 1)
  -- broken off: that, and not what it did not come to
  pub broken_off : judgement two (root 3 ∷ accepted figure 86 ∷ its_slip ∷ []) ≡ refused Incomplete
  pub no-figure : judgement (slip (line text 86 ∷ [])) (root 2 ∷ read text 86 ∷ its_slip ∷ []) ≡ refused NoFigure
  -- ---- sticks that a bench once passed

  -- a copy that broke off: a file is not there; nor is the slip
  pub half_copied : judgement two (root 2 ∷ accepted figure 86 ∷ its_slip ∷ []) ≡ refused (Absent 2)
  pub gone : judgement one (root 1 ∷ accepted figure 86 ∷ []) ≡ refused (Absent 0)
  -- the slip under another name, in a folder, exchanged for another while the check went on, or a folder in its place
  pub misnamed : judgement one (root 2 ∷ accepted figure 86 ∷ read other_name 40 ∷ []) ≡ refused (Unexpected 2)
  pub below : judgement one (root 2 ∷ accepted figure 86 ∷ folder dir 1 ∷ read (100 ∷ 47 ∷ slip_name) 40 ∷ []) ≡ refused (Unexpected 2)
  pub exchanged : judgement one (root 2 ∷ accepted figure 86 ∷ read slip_name 41 ∷ []) ≡ refused (Changed 2)
  pub in_its_place : judgement one (root 2 ∷ accepted figure 86 ∷ folder slip_name 0 ∷ []) ≡ refused (Unexpected 2)
  -- a slip with an entry of its own name: no file is left to meet it
  pub of-itself : judgement (slip (line figure 86 ∷ line slip_name 40 ∷ [])) (root 2 ∷ accepted figure 86 ∷ its_slip ∷ []) ≡ refused (Absent 2)
  -- a file of 2^48 bytes for an empty one: its length, moved up by 16 bits, is 0 in 64
  pub huge : judgement (slip (record { name = text; file = 0; first = 0; second = 0 } ∷ []))
      (root 2 ∷ unread text (2 ^ 48) ∷ its_slip ∷ []) ≡ refused (Changed 1)
  -- one folder met twice, so that the count of names fits although a name was lost
  pub doubled : judgement two (root 2 ∷ folder dir 1 ∷ folder dir 1 ∷ accepted inner 86 ∷ accepted figure 86 ∷ []) ≡ refused (Unexpected 2)
  -- two entries that are one name on a stick
  pub two_in_one : judgement (slip (line figure 86 ∷ line capital 86 ∷ []))
      (root 3 ∷ accepted figure 86 ∷ accepted capital 86 ∷ its_slip ∷ []) ≡ refused (Unexpected 2)
  -- the ending tells
  pub named_cob : format_of bare ≡ 2
  pub named_3ds : format_of capital ≡ 1
  pub named-short : format_of text ≡ 0

-- ---- the call itself: a slip with one entry, a.3ds of 86 bytes with the sums 3 and 4; its names; and its items

abbrev pub real_slip : List ℕ
real_slip = 1 ∷ 0 ∷ 0 ∷ 0 ∷ 14 ∷ 0 ∷ 1 ∷ 5 ∷ figure ++ (0 ∷ 0 ∷ 0 ∷ 86 ∷ 3 ∷ 4 ∷ [])

abbrev pub names : List ℕ
names = figure ++ slip_name

abbrev pub of_folder : List ℕ
of_folder = packed 8 (0 ∷ 0 ∷ 2 ∷ 3 ∷ 0 ∷ 0 ∷ 0 ∷ [])

abbrev pub of_figure : List ℕ
of_figure = packed 8 (0 ∷ 5 ∷ 1 ∷ 86 ∷ (65_536 * 86 + 1027) ∷ 1 ∷ 7 ∷ [])

-- with its length and its sums; and with a name of this length
abbrev pub of_slip : ℕ → List ℕ
of_slip len = packed 8 (5 ∷ len ∷ 1 ∷ 19 ∷ (65_536 * 19 + (sum_of real_slip).first + 256 * (sum_of real_slip).second) ∷ 0 ∷ 0 ∷ [])

pub record CallSamples : Type 0 where
  pub passes : judge_call real_slip names (of_folder ++ of_figure ++ of_slip 10) ≡ (Ok tt)
  -- a name that ends outside the names; a part of an item more; a slip that is refused, or is not the one on the stick
  pub name-outside : judge_call real_slip names (of_folder ++ of_figure ++ of_slip 11) ≡ refused (Unchecked 2)
  pub part_left : judge_call real_slip names (of_folder ++ of_figure ++ of_slip 10 ++ (0 ∷ [])) ≡ refused (Unchecked 3)
  pub no-slip : judge_call [] names (of_folder ++ of_figure ++ of_slip 10) ≡ refused (Slip 0)
  pub other_slip : judge_call (1 ∷ 0 ∷ 0 ∷ 0 ∷ 2 ∷ 0 ∷ 0 ∷ []) names (of_folder ++ of_slip 10) ≡ refused (Changed 1)
  pub nothing-handed : judge_call real_slip [] [] ≡ refused Incomplete
