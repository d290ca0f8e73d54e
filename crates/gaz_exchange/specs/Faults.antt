-- The refusals by number, and their status (RFC 9110, section 15).
use Rattle.std.specs.Prelude.{ℕ, List, [], codes}
use Rattle.gaz_steps.specs.DoorNumbers.{door_number}
use Rattle.gaz_steps.specs.declared.refusal.DoorRefusal.{DoorRefusal}
use Rattle.gaz_steps.specs.declared.refusal.DoorRefusal.TheVariants.{BadVolume, TooLarge}
use Rattle.gaz_steps.specs.declared.refusal.DoorRefusal.TheVariants.{UnknownCustodian}
use Rattle.gaz_steps.specs.declared.refusal.DoorRefusal.TheVariants.{UnknownProfile}
use Rattle.gaz_steps.specs.declared.refusal.Refusal.{Refusal}
use Rattle.gaz_steps.specs.declared.refusal.Refusal.TheVariants as hub
use Rattle.gaz_exchange.specs.declared.fault.Allowed.TheVariants.{Get, GetAndPost}
use Rattle.gaz_exchange.specs.declared.fault.Fault.{Fault}
use Rattle.gaz_exchange.specs.declared.fault.Fault.TheVariants.{Door, NotThere, BadRequest}
use Rattle.gaz_exchange.specs.declared.fault.Fault.TheVariants.{NoRoute, BadMethod}
use Rattle.gaz_exchange.specs.declared.fault.Fault.TheVariants.{LengthRequired, NotReceived}
use Rattle.gaz_exchange.specs.declared.fault.Fault.TheVariants.{Unsettled}

-- a refusal of the hub's, whose cause isn't told
abbrev pub fault_of : Refusal → Fault
fault_of (hub.Door why) = Door why
fault_of (hub.NotReceived cause) = NotReceived
fault_of (hub.ReceivedUnsettled cause) = Unsettled

abbrev pub number_of : Fault → ℕ
number_of (Door why) = door_number why
number_of NotThere = 17
number_of BadRequest = 40
number_of NoRoute = 41
number_of (BadMethod allowed) = 42
number_of LengthRequired = 43
number_of NotReceived = 51
number_of Unsettled = 52

-- the status of each refusal of the door
abbrev pub door_status : DoorRefusal → List ℕ
door_status UnknownCustodian = codes "404 Not Found"
door_status BadVolume = codes "404 Not Found"
door_status TooLarge = codes "413 Content Too Large"
door_status UnknownProfile = codes "415 Unsupported Media Type"

abbrev pub status_of : Fault → List ℕ
status_of (Door why) = door_status why
status_of BadRequest = codes "400 Bad Request"
status_of NotThere = codes "404 Not Found"
status_of NoRoute = codes "404 Not Found"
status_of (BadMethod allowed) = codes "405 Method Not Allowed"
status_of LengthRequired = codes "411 Length Required"
status_of NotReceived = codes "503 Service Unavailable"
status_of Unsettled = codes "503 Service Unavailable"

-- the methods that are allowed, where another was used
abbrev pub allow_of : Fault → List ℕ
allow_of (BadMethod Get) = codes "Allow: GET\r\n"
allow_of (BadMethod GetAndPost) = codes "Allow: GET, POST\r\n"
allow_of _ = []
