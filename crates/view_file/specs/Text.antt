-- The one text of views, as a file of version 2: with no space, keys, functions and names in order, digits in lower case.
-- JSON is RFC 8259, as serde_json writes it: in a name a quotation mark and a backslash stand behind a backslash.
use Rattle.std.specs.Prelude.{ℕ, List, map, codes}
use Rattle.hex.specs.Hex.{encode_lower}
use Rattle.serde_json.specs.Data.{Data, unsigned, number, string, array, object, no_items, item, no_members, member}
use Rattle.serde_json.specs.View.{items_of}
use Rattle.serde_json.specs.Written.{compact_text}
use Rattle.guest_input.specs.declared.image.Start.{Start}
use Rattle.view_file.specs.declared.views.App.{App}
use Rattle.view_file.specs.declared.views.Views.{Views}

abbrev pub number_data : ℕ → Data
number_data n = number (unsigned n)

abbrev pub start_data : Start → Data
start_data at = array (item (number_data at.range) (item (number_data at.offset) no_items))

abbrev pub starts_data : List Start → Data
starts_data starts = array (items_of (map start_data starts))

abbrev pub app_data : App → Data
app_data app = object (member (codes "functions") (starts_data app.functions) (member (codes "name") (string app.name) no_members))

abbrev pub apps_data : List App → Data
apps_data apps = array (items_of (map app_data apps))

abbrev pub views_object : Data → Data → Data → Data
views_object apps shared text = object (member (codes "apps") apps (member (codes "shared") shared (member (codes "text") text
    (member (codes "version") (number_data 2) no_members))))

abbrev pub views_data : Views → Data
views_data v = views_object (apps_data v.apps) (starts_data v.shared) (string (encode_lower v.text))

abbrev pub text_of_views : Views → List ℕ
text_of_views v = compact_text (views_data v)
