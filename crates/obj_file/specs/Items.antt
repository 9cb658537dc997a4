-- The elements and items of a page that was read, as those of the definitions.
use Rattle.spec_page.specs.Element.{Element}
use Rattle.spec_page.specs.Items.{Item, Printed, Skipped, Refused}
use Rattle.obj_file.specs.Elements.{element_with}
use Rattle.obj_file.specs.declared.element.ObjElement.{ObjElement}
use Rattle.obj_file.specs.declared.item.ObjItem.{ObjItem}
use Rattle.obj_file.specs.declared.item.ObjItem.TheVariants as read

abbrev pub element_of : ObjElement → Element
element_of e = element_with e.number e.frame e.corners.items e.printed.items e.faces.items e.six

abbrev pub item_of : ObjItem → Item
item_of (read.Printed e) = Printed (element_of e)
item_of (read.Skipped n) = Skipped n
item_of (read.Refused n why) = Refused n why
